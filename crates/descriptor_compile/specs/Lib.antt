pub mod Compile
pub mod Checking
