pub mod RowNumbers
pub mod MarkTables
pub mod Insides
pub mod CallGroups
pub mod DayRows
