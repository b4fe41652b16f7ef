-- when claims are right
pub mod RightClaims
-- what right claims are good for
pub mod Laws
-- what the check of claims answers
pub mod Verdicts
-- what only private contracts and proofs cite
pub mod private
