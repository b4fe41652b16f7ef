-- What only private contracts and proofs cite: a reader of the public calls needs none of it.

-- the game over an automaton, as a parity game, while it is made and when it is
pub mod Arena
-- states that are numbered as they are met
pub mod Numbered
-- a game that is solved
pub mod Solved
