pub mod Rules
pub mod Codes
pub mod Judged
pub mod Starts
