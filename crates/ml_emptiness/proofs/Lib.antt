-- ways over pairs make words
pub mod Ways
-- the way back to the start
pub mod Backwards
-- steps along a walk
pub mod Stepped
-- pairs and arcs while joint moves are added
pub mod Joined
-- accepted words go round cycles
pub mod Accepted
-- pairs are equal if they are one
pub mod EqualPairs
-- letters by their sources
pub mod Letters
-- what the program reads
pub mod Tables
-- letters between pairs, and steps along arcs
pub mod Between
-- arcs that join pairs
pub mod Arcs
-- rows with the same transitions
pub mod SameRows
-- whether a word is accepted is decided
pub mod SomeLasso
