-- walks among finitely many places
pub mod PlaceWalks
-- the iterates that U and R mean
pub mod Iterated
-- temporal operators by one step and by what is to come
pub mod StepByStep
-- truth along one path in different lassos
pub mod SamePaths
-- truth of state formulas
pub mod StateFormulas
-- negations of temporal operators and of quantifiers
pub mod Negations
-- the grammar is the one of the tables
pub mod GrammarTables
-- the tables are regular and can be completed
pub mod CtlGrammar
-- the names of what is read are those of its signs
pub mod ReadNames
-- what a text counts is what its formula has
pub mod Counting
-- texts of a logic stand for its formulas
pub mod Sorts
-- from what was read to what is answered
pub mod Parsed
-- a text has one answer
pub mod OneAnswer
-- canonical texts
pub mod CanonicalTexts
-- canonical texts pass no limit
pub mod CanonicalLimits
-- canonical texts are parsed
pub mod CanonicalParsed
-- paths of total structures
pub mod TotalPaths
-- formulas are equal or not
pub mod FormulaEquality
-- formulas made of formulas
pub mod Connected
-- enumerations by their halves
pub mod Halves
-- formulas whose propositions are replaced
pub mod SoundReplaced
-- the canonical text of a formula stands in one line
pub mod CanonicalLines
