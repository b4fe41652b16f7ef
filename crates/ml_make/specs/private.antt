-- What only private contracts and proofs cite: a reader of the public call needs none of it.

-- rows of machines and environments that fit
pub mod Fitting
