-- That what specs/Theorems states holds.
pub mod Accepted
pub mod Lists
pub mod Bytes
pub mod Intake
pub mod Cases
pub mod Theorems
