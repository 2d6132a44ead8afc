-- The laws of supplies.
pub mod Stores
pub mod Entries
pub mod Heads
pub mod Fronts
pub mod Stands
pub mod Enough
pub mod Parts
pub mod Elements
pub mod Values
pub mod Leaves
