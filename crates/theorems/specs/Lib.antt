-- What this library promises, as types that have names: to be believed together with crates/protocol. That they hold is proved in proofs/.
pub mod Terms
pub mod Cases
pub mod Theorems
