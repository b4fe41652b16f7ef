-- where the edges by `_` of a state lead
pub mod Steps
-- the path from a state, as it is walked
pub mod Walked
-- truth values at the places of a path
pub mod Truths
