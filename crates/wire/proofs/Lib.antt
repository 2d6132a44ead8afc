-- The laws that this crate's proofs cite, and other crates' too.
pub mod Picks
pub mod Tables
pub mod Numbers
pub mod Stores
pub mod Sequences
