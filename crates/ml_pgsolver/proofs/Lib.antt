-- tokens of a text from a byte on
mod FirstTokens
-- numbers up to a cap
mod Capped
-- game texts as trees that grow
mod Trees
-- which tokens begin a game text
mod Viable
-- which tokens are ids and successors
mod Roles
-- what the reader makes of tokens
mod Images
-- the reader's steps are those of the grammar
mod Comings
-- a list that is cut in two ways
mod Splits
-- tokens that were read
mod Readings
-- the first fault of tokens
mod FirstFaults
-- the bytes at which tokens are at fault
mod PlacedFaults
-- what comes of a text
mod Outcomes
-- the highest priority
mod Highest
-- places among ids
mod Places
-- rows in the order of their ids
mod InIdOrder
-- the game of such rows
mod MadeGames
-- rows that a program has sorted
mod SortedRows
-- a text that was read to its end
mod Ended
-- the first number that ought to be an id and is none
mod FirstStranger
-- the first successor that is no id
mod FirstUnknown
-- what is answered to a text
mod Answered
-- one sign among which a stranger is sought
mod UnknownSteps
-- the lines of a solution
mod WrittenLines
-- rows are those of one game
mod OneGame
-- each text has one answer
pub mod OneAnswers
-- each text has an answer
pub mod SomeAnswers
-- the longest token at the front of a text
mod LongestTokens
-- one step of the reader
mod Steps
-- solutions that say the same have one text
pub mod SameTexts
-- solutions as trees that grow
mod SolutionTrees
-- the steps of the reader of solutions
mod SolutionComings
-- what comes of a solution
mod SolutionOutcomes
-- what is answered to a solution
mod SolutionAnswers
-- the claims of entries
mod RowClaims
-- the first id of an entry that is none
mod Strangers
-- what is answered to a game with a solution
mod CheckedAnswers
-- the word between a game and its solution
mod WordPlaces
-- each text with a solution has one answer
pub mod OneChecked
-- each text with a solution has an answer
pub mod SomeChecked
-- what is found of claims
pub mod OneFound
-- the word behind the text of a game
pub mod WordsBehind
-- the word among tokens
mod WordTokens
-- the text of a solution, sign by sign
mod WrittenSigns
-- what is written for a solution is accepted
pub mod WrittenSolutions
