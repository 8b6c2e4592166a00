pub mod Fitting
pub mod Walking
pub mod Answering
pub mod Explaining
