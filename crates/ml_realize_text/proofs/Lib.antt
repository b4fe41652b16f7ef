-- what is written word by word and line by line
pub mod WrittenParts
-- items that stand one after the other
pub mod InTurn
-- words that were compared with fixed ones
pub mod FixedWords
-- sets of names as words
pub mod SetWords
-- a set of names is written in one way
pub mod OneSet
-- sets of names read from words
pub mod SetReads
-- the last word of a text
pub mod LastWords
-- which place comes next
pub mod Places
-- the words of the lines of a body
pub mod LineWords
-- which lines of a body are good, and which rule another one breaks first
pub mod BodyLines
-- the lines of states
pub mod BodyRows
-- machines and environments as lists of rows
pub mod Tables
-- the lines of a text are cut out of it
pub mod CutLines
-- the body of a document is readable exactly where it is written of one
pub mod Bodies
-- what a text is of, and where it has no bad line
pub mod Documents
-- whether a line keeps the rules of its place is decided
pub mod DecidedBodies
-- a text is of a task and an outcome, or has one first bad line
pub mod OneAnswer
-- the lines of a machine or an environment are those of no other one
pub mod OneBody
-- a text is of one task and one outcome at most
pub mod OneDocument
-- what is written is read back
pub mod WrittenDocuments
-- going through a text line by line
pub mod Going
-- what a refusal of one line tells
pub mod Told
-- the end of a document
pub mod Ends
-- the parts of the lines of a body, as they are read
pub mod BodyReads
-- lists that are read item by item
pub mod ListedLines
-- the steps and the rows of a machine, as they are read
pub mod MachineRead
-- the states of an environment, as they are read
pub mod EnvironmentRead
-- the states of either, between their number and `end`
pub mod OutcomeRead
-- what stands before the body, as it is read
pub mod HeadRead
-- a whole document, as it is read
pub mod DocumentRead
