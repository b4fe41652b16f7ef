-- what the grammar reads, the tables read
pub mod ToTables
-- what the tables read, the grammar reads
pub mod FromTables
-- the tables are regular and can be completed
pub mod PdlGrammar
-- marked parentheses are those of tests
pub mod Marks
-- where texts are refused
pub mod Refusals
-- texts worked out by hand
mod WorkedTexts
-- runs into a set
pub mod RunsInto
-- stars and repetitions as fixpoints
pub mod StarRelations
-- flags of meanings
pub mod MeaningFlags
-- meanings worked out by hand
mod WorkedMeanings
-- the names of what is read are those of its signs
pub mod ReadNames
-- negations in front of tests
pub mod Negations
-- marks, told from bytes
pub mod MarkBytes
-- what a text counts is what its formula has
pub mod Counting
-- from what was read to what parse answers
pub mod Parsed
-- a text has one answer
pub mod OneAnswer
-- the signs of a text are marked
pub mod MarkedTexts
-- canonical texts
pub mod CanonicalTexts
-- canonical texts pass no limit
pub mod CanonicalLimits
-- canonical texts are parsed
pub mod CanonicalParsed
-- each formula has an occurrence, and so does each program
pub mod SomeOccurrence
-- formulas made of formulas
pub mod Connected
-- formulas whose propositions are replaced
pub mod SoundReplaced
-- the canonical text of a formula stands in one line
pub mod CanonicalLines
