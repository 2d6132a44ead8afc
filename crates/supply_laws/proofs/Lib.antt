-- What is written has the supply, and what has it is written: the theorems of writing values.
pub mod SoundHeads
pub mod SoundReads
pub mod Sound
pub mod Fields
pub mod Zeros
pub mod Complete
pub mod RoundTrip
pub mod Written
pub mod Exact
pub mod Crossed
