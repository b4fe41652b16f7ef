-- What only private contracts and proofs cite: a reader of the public calls needs none of it.

-- stacks laid out one behind the other in flat arrays
pub mod Arrays
-- the best offers, by keys in place of stacks
pub mod Keys
-- stacks as ways down a tree
pub mod Ways
-- the names in use in a line, worst offer first
pub mod Line
-- histories as trees, as plain data
pub mod Forest
-- what the vertices that a program holds are seen as
pub mod Vertices
-- what walks over a forest give
pub mod TreeWalks
-- the history step on trees, in four passes
pub mod TreeStep
-- the transitions of a letter, grouped by their sources
pub mod Moves
