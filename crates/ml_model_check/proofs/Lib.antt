-- the least state without an edge by `_` is the first deadlock
pub mod Deadlocks
-- what is found of a structure for a problem
pub mod Findings
-- checking a text finds exactly one thing
pub mod OneCheck
-- what is written is read back
pub mod ReadBack
