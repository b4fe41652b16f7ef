-- What only private contracts and proofs cite: a reader of the public call needs none of it.

-- machines and environments as systems
pub mod AsSystems
