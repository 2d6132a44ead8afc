-- The laws of one leaf, of a stretch of them, and of the leaves of a sparse object.
pub mod Single
pub mod Stretches
pub mod Gathering
