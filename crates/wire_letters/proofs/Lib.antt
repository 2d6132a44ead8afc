-- The laws that this crate's proofs cite, and other crates' too.
pub mod PlainRuns
pub mod Rows
