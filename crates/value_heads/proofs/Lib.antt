-- The laws that other crates cite: what each head can be, and where it leads; the required elements of a sparse object, counted; and the marks
-- of its indexes.
pub mod Cases
pub mod Bounds
pub mod Counts
pub mod Marks
