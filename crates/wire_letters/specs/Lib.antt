pub mod Step
pub mod Scan
