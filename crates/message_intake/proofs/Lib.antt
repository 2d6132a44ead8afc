pub mod Hands
pub mod Takes
