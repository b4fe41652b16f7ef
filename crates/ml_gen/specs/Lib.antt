-- the families, their ranges and the texts of their formulas
pub mod Families
-- families by their words, and for which numbers they are made
pub mod FamilyRanges
-- the formulas, and how many occurrences they have
pub mod Formulas
-- the texts stand for them
pub mod Parsed
