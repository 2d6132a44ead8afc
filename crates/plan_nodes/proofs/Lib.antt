-- The laws of plans, which this crate's proofs cite, and other crates' too.
pub mod Looks
pub mod Reading
pub mod Nodes
pub mod Refs
pub mod Sizes
pub mod Memos
pub mod Roots
