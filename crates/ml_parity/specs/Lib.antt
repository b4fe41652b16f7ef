-- parity games, as lists
pub mod Game
-- what the values of the program for heights stand for
pub mod HeightLists
-- heights, and that they fall along an arc
pub mod Heights
-- the determinacy law
pub mod Law
-- one-sided graphs, walks in them, and which numbers are heights
pub mod OneSided
-- the two players
pub mod Player
-- which lists are no parity game
pub mod Refusal
-- solutions of a game
pub mod Solution
-- plays, positional strategies, and who wins a vertex
pub mod Winner
-- what only private contracts and proofs cite
pub mod private
