-- keys that are numbered
pub mod Numbers
-- places of a list, linked
pub mod Places
-- into which classes the edges of a state lead
pub mod Signatures
-- the rounds of a refinement
pub mod Rounds
-- what the quotient is built from
pub mod Merged
