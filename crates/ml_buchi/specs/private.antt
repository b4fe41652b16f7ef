-- What only private contracts and proofs cite: a reader of the public calls needs none of it.

-- a parity condition, from its left to its right
pub mod Openings
