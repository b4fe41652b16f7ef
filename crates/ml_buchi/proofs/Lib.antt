-- the letters of valuations have the transitions of the edges
mod EdgesTaken
-- the edges that may be taken, one by one
mod TakenEdges
-- rows of letters grow
mod GrowingLetters
-- rows of letters that stand for the same sets
mod SameRows
-- automata that lead alike
mod LeadAlike
-- the deterministic automaton accepts the same words
pub mod SameWords
-- what is made of letters that stand for the same sets
mod MadeDeterministic
-- what is made deterministic can be written
mod Writable
-- parity conditions
mod Conditions
-- lines of the text
mod WrittenLines
