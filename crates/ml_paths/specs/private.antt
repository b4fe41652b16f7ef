-- What only private contracts and proofs cite: a reader of the public call needs none of it.

-- the letters of the states of a structure
pub mod Letters
-- structures as systems
pub mod Systems
-- how a lasso is made shorter
pub mod Shortening
-- the parts of which the structure of a word is built
pub mod Built
