-- What this library promises, as types that have names: to be believed together with crates/protocol and wire_letters/specs/Step. That they hold
-- is proved in proofs/.
pub mod Terms
pub mod Theorems
