-- names counted up to one that isn't declared
pub mod PassedNames
-- the names that begin in lower case
pub mod LowerNames
-- the words of texts of the mu-calculus
pub mod MuWords
-- and of PDL
pub mod PdlWords
-- and of CTL* and LTL
pub mod CtlWords
-- and of LTL with bounds
pub mod BoundedWords
-- the words of a text that begin in lower case
pub mod LowerTokens
-- the first proposition that isn't declared
pub mod FirstMissing
-- propositions and their places
pub mod PlacedNames
-- what is written is well formed
pub mod WellWritten
-- a text has one answer
pub mod OneAnswer
-- the first proposition of a text that isn't declared
pub mod FirstPlaced
-- items with other signs
pub mod HeldItems
-- texts without bounded operators
pub mod UnboundedTexts
