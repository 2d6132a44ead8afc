pub mod Follows
pub mod OffBlocks
