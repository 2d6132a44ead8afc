-- The laws that this crate's proofs cite, and other crates' too.
pub mod Matches
pub mod Parts
pub mod Formats
pub mod Decimals
pub mod Leaves
pub mod Times
