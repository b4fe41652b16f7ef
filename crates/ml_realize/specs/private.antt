-- What only private contracts and proofs cite: a reader of the public calls needs none of it.

-- letters for valuations
pub mod Rows
