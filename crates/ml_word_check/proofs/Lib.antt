-- where the edges of states lead
pub mod EdgesGathered
-- the truth of a formula at the places of a path
pub mod TruthValues
-- the path from a state
pub mod Walked
-- what is found at the state
pub mod FoundAtStates
-- values changed one after the other
pub mod Changes
-- U and R at all places
pub mod ValuesAround
