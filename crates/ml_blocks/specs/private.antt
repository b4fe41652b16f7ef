-- What private contracts cite.

-- items by the numbers of their occurrences
pub mod Asked
-- when lists of them are equal
pub mod ItemEquality
-- what is kept of each occurrence
pub mod Occurrences
-- what nodes are, by numbers
pub mod Forms
-- which nodes they stand for
pub mod Views
