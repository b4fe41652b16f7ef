-- the grammar is the one of the tables
pub mod GrammarTables
-- the tables are regular and can be completed
pub mod MuGrammar
-- what a text counts is what its formula has
pub mod Counting
-- the names of what is read are those of its signs
pub mod ReadNames
-- variables that are fine are bound and positive
pub mod Fine
-- variables that are bound and positive are fine
pub mod FaultFree
-- from what was read to what parse answers
pub mod Parsed
-- a text has one answer at most
pub mod OneAnswer
-- a text has an answer
pub mod SomeAnswer
-- the states whose edges lead into a set
pub mod EdgeWalks
-- what the evaluator's parts compute
pub mod Evaluation
-- sets of states by inclusion
pub mod Inclusion
-- a meaning has one flag for each state
pub mod MeaningFlags
-- canonical texts
pub mod CanonicalTexts
-- positive bodies are monotone
pub mod Monotone
-- the n-th iterate is a fixpoint, the least or the greatest
pub mod Fixpoints
-- canonical texts pass no limit
pub mod CanonicalLimits
-- canonical texts are parsed
pub mod CanonicalParsed
-- each formula has an occurrence
pub mod SomeOccurrence
-- formulas made of formulas
pub mod Connected
-- formulas whose propositions are replaced
pub mod SoundReplaced
-- the canonical text of a formula stands in one line
pub mod CanonicalLines
