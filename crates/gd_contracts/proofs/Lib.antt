pub mod Levels
pub mod InPath
pub mod ContractNames
pub mod ClassAnswers
mod Examples
