pub mod Ids
pub mod Texts
pub mod Earlier
