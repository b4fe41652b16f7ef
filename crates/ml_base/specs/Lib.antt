-- what known counts of bytes and faults tell
pub mod KnownCounts
-- names and actions
pub mod Name
-- Kripke structures
pub mod Structure
-- the order of edges
pub mod EdgeOrder
-- counts of faults, and when one rose
pub mod Faults
-- the source and the sink in memory, as values
pub mod Memory
-- what a whole read and a whole write leave behind
pub mod Whole
