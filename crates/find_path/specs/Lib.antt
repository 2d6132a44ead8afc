pub mod Find
pub mod Descent
