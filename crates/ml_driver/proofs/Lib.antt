-- inputs within the limit of their command, and past it
pub mod InputLimits
-- how a call ends
pub mod Endings
-- what a call gives back beside its status
pub mod ToldCalls
-- a decision is what is due
pub mod Answered
-- the words as they are taken apart
pub mod FoundWords
-- the first words of commands in their table
pub mod NamedVerbs
-- what is due for `solve-game`
pub mod GameAnswers
-- how long the text of a solution is at most
pub mod SolutionLengths
-- what is due for `check-game`
pub mod CheckedGameAnswers
-- what is due for `determinise`
pub mod AutomatonAnswers
-- what is due for `path`
pub mod PathAnswers
-- what is due for `show`
pub mod ShownAnswers
-- what is due for `check-answers`
pub mod CheckedAnswers
-- how a call ends whose answer is delivered
pub mod Delivered
-- what is due for `check-machine`
pub mod MachineAnswers
-- what is due for `realize` and `make`
pub mod TaskAnswers
-- what is due for `ask`
pub mod AskedAnswers
-- what `check-machine` answers of what is due for `realize` and `make`
pub mod CheckedOutcomes
-- what `check-answers` answers of what is due for `ask files`
pub mod AskedAreChecked
-- what is due for `path`, beside what is due for `check-model`
pub mod PathsBeside
-- each structure has a quotient
pub mod SomeQuotient
-- what is due for `quotient`
pub mod QuotientAnswers
-- one status is due
pub mod OneDue
-- what is written is read back
pub mod ReadBack
-- some status is due
pub mod SomeDue
-- words worked out by hand
pub mod WorkedWords
-- each question on each text has an answer
pub mod SomeAnswer
-- the numbers of commands that words are fit
pub mod FitNumbers
-- the problems of families
pub mod FamilyProblems
-- a search answers what the whole game does
pub mod Searched
-- what is due for `automaton`
pub mod TranslationAnswers
