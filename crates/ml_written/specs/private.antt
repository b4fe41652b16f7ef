-- What private contracts and proofs cite; what texts and their propositions are is said without it.

-- names counted up to one that isn't declared
pub mod Passing
-- the words of a text that begin in lower case
pub mod LowerWords
