-- What only private contracts and proofs cite: a reader of the public calls needs none of it.

-- how states are marked and numbered
pub mod Numbers
-- how a program walks under a letter
pub mod Walking
