pub mod Fields
pub mod Walks
pub mod Trusted
pub mod Whole
pub mod Ends
