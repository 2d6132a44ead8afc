-- The laws of the rules of values, over any description of nodes.
pub mod Forests
pub mod Outcomes
pub mod Loops
pub mod Relabel
pub mod Fuel
pub mod HeadSizes
pub mod Faults
pub mod Bound
pub mod Widths
pub mod Parts
