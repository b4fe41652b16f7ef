-- What private contracts and proofs cite; which graph a formula has is said in `MuGraph.antt`.

-- the lists of a formula's graph
pub mod NodeList
-- what the program holds
pub mod Views
