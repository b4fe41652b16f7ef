-- the grammar is the one of the tables
pub mod GrammarTables
-- the tables are regular and can be completed
pub mod BoundedGrammar
-- the names of what is read are those of its signs
pub mod ReadNames
-- what a text counts is what its formula has
pub mod Counting
-- from what was read to what is answered
pub mod Parsed
-- a text has one answer
pub mod OneAnswer
-- texts worked out by hand
pub mod WorkedTexts
-- numbers in texts
pub mod Digits
-- formulas written out
pub mod WrittenOut
