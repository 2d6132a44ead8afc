-- The laws of descriptors: of the code's steps; and what every accepted block obeys, which other crates' proofs cite.
pub mod Rules
pub mod Steps
pub mod Loops
pub mod Tags
pub mod Readings
pub mod Elements
pub mod ScalarFormats
pub mod Sound
pub mod Progress
pub mod BlockFuel
pub mod Accepted
pub mod IdFirst
pub mod Numbers
