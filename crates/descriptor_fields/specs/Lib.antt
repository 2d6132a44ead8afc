pub mod Layouts
pub mod Fields
pub mod Arrays
pub mod Earlier
