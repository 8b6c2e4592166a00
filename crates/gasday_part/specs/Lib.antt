pub mod Answers
pub mod AnswerSeen
pub mod Output
pub mod OpenedBooks
pub mod Inquiries
pub mod Solutions
