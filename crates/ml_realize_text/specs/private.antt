-- What only private contracts and proofs cite: a reader of the public calls needs none of it.

-- rows of steps
pub mod Rows
-- what the reader of a document knows
pub mod Reads
