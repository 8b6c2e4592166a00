pub mod Calls
pub mod Carrying
pub mod ContractRows
pub mod Groups
pub mod Heads
pub mod Marks
pub mod ElementNames
pub mod Opening
