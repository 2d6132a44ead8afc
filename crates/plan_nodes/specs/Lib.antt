pub mod Readers
pub mod Memo
