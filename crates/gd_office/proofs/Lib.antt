mod Numbering
mod Histories
