-- What private contracts and proofs cite; what `solve` answers is said without it.

-- a solution as claims
pub mod Claimed
