pub mod AllRecords
mod DayRows
pub mod Digits
pub mod EmptyFields
pub mod ExampleTexts
pub mod LineCuts
mod LineRows
mod OfficeRows
pub mod RecordReads
pub mod TextScan
pub mod Utf8Test
