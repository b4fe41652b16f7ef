-- What private contracts and proofs cite; what a formula's graph is, is said without it.

-- the lists of a graph
pub mod NodeList
-- how many occurrences the parts of a formula have
pub mod Sizes
