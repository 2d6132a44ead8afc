-- The laws of finding.
pub mod Seeks
pub mod Descents
pub mod Paths
pub mod Calls
pub mod Entries
pub mod Indexes
