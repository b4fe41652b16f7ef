-- What only private contracts and proofs cite: a reader of the public call needs none of it.

-- transitions by their sources
pub mod Leaving
-- pairs of states that are reached together
pub mod Pairs
-- what the program holds of them
pub mod Found
-- states with letters
pub mod Trails
