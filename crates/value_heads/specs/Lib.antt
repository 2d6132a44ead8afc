-- Heads counts the required elements of a sparse object, Bounds says what holds of every head that was read, and Marks which indexes of a
-- sparse object were seen.
pub mod Heads
pub mod Bounds
pub mod Marks
