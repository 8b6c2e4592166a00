pub mod Building
pub mod PriceLists
