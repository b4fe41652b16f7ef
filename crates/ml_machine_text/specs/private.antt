-- What only private contracts and proofs cite: a reader of the public call needs none of it.

-- the letters of a word of valuations
pub mod Letters
