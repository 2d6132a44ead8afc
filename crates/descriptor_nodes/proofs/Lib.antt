pub mod NodeWords
pub mod Roots
