pub mod Entries
pub mod Walks
pub mod Nodes
pub mod Members
pub mod Counted
pub mod Containers
