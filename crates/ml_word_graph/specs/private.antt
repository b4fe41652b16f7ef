-- What private contracts and proofs cite; which graph a formula has is said in `WordGraph.antt`.

-- the nodes of all occurrences
pub mod Layout
-- the nodes that are reached, in their order
pub mod Reached
