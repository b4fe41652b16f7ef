-- What only private contracts and proofs cite: a reader of the public calls needs none of it.

-- how places are found
pub mod Finding
