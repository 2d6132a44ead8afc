pub mod Answers
pub mod Scan
