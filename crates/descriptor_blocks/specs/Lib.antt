pub mod Blocks
pub mod Descriptor
pub mod Walks
