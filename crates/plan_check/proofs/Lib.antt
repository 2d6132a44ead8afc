-- The laws of the check of a plan.
pub mod Scans
