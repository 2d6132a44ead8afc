-- The laws of fields by themselves, and of the runs of numbers that the code keeps of blocks and elements.
pub mod Rows
pub mod Tabs
pub mod Known
pub mod Extents
