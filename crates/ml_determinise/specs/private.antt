-- What only private contracts and proofs cite: a reader of the public calls needs none of it.

-- the walk that numbers histories
pub mod Walk
