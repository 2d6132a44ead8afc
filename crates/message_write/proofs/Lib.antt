pub mod Caps
pub mod Contents
pub mod Emits
pub mod Trusted
pub mod Puts
