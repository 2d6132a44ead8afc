-- R4.14: running a compiled plan gives what the rules read off its descriptor give.
pub mod Words
pub mod Shapes
pub mod Places
pub mod Renames
pub mod Climbs
pub mod Blocks
pub mod Formed
pub mod PlanSize
pub mod ByBlocks
pub mod RulesSame
pub mod Demand3
pub mod Follows
pub mod EntryBound
pub mod Numbers
