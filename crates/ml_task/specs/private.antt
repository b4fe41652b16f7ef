-- What only private contracts and proofs cite: a reader of the public calls needs none of it.

-- what is known of the lines that were read
pub mod Stages
-- what a task keeps is a proposition
pub mod Propositions
