-- What private contracts and proofs cite; which graph a formula has is said without it.

-- the lists of a connective
pub mod Connectives
