-- the refutation that a solution of the decision game makes
pub mod Extracted
-- what is true of it
pub mod Laws
-- what only private contracts cite
pub mod private
