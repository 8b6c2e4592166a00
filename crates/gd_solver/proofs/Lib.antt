pub mod PotentialFalls
pub mod Solutions
