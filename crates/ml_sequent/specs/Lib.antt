-- which child is taken at an or-node
pub mod Choice
-- when choices are equal
pub mod ChoiceEquality
-- which cause of a clash comes first
pub mod FirstCause
-- that a spread is the least set that is closed
pub mod LeastSpread
-- local walks, with the lowest priority on them
pub mod LocalWalk
-- spreads, clashes, open or-nodes
pub mod Spread
-- the step along a diamond
pub mod Step
-- one sequent under more and more sides
pub mod Branch
-- what only private contracts cite
pub mod private
