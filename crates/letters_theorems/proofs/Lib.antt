-- That what specs/Theorems states holds.
pub mod Theorems
