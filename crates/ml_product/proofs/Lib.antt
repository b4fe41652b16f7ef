-- what is true of each position that is reached
pub mod Reached
-- the parity game of an arena, vertex by vertex
pub mod ArenaGame
-- the neutral priority stands above those of all marks
pub mod NeutralPriority
-- what there is one of: spreads, and places of positions
pub mod OnePlace
-- the choice of each position that is reached
pub mod ReachedChoices
-- the parity game of an arena as it is held
pub mod HeldGames
-- the code of a position, and the bound of positions
pub mod bound
-- each parity game has a solution
pub mod SomeSolution
-- a position gets a number
pub mod Interning
-- keys of tables are equal if they are one
pub mod KeyEquality
-- positions as they are stored, one more
pub mod Placing
-- tables of keys with numbers, when a position joins
pub mod Naming
-- positions of one tree
pub mod Below
-- positions that differ in their priority alone
pub mod Twins
-- where sides began to be chosen
pub mod Roots
-- what there is one of: where a step leads, and the moves of a position
pub mod OneTurn
-- the sequents of positions that are reached
pub mod ReachedSequents
-- vertices of targets, while positions come
pub mod Vertices
-- what an exploration has found
pub mod Explored
-- a number that is allowed, and one that is not
pub mod Numbering
-- what a turn makes of the pool
pub mod Turning
-- the end of an exploration
pub mod Ended
-- an exploration that is under way
pub mod Underway
