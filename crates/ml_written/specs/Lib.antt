-- formulas as texts of files have them, and what they stand for
pub mod Written
-- which words may be propositions
pub mod Propositions
-- where the propositions of a text stand
pub mod Places
-- what private contracts cite
pub mod private
