-- The laws of heights and of starts.
pub mod Starts
pub mod Heights
pub mod Cases
