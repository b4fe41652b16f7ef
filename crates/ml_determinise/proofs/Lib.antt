-- words that are put together, and runs along them
pub mod Words
-- histories along a word, and runs to the states that have a stack in them
pub mod HistoryRuns
-- histories over finitely many states are finitely many
pub mod FiniteHistories
-- the two automata accept the same words
pub mod SameWords
-- first entries of lists that grow
pub mod Firsts
-- deterministic parity automata that go alike
pub mod AlikeAutomata
-- the numbered automaton accepts the same words
pub mod NumberedWords
-- histories that are reached
pub mod ReachedHistories
-- at most so many histories have a numbering, or more are reached
pub mod Numberings
-- the letters that were followed from one history
pub mod FollowedLetters
-- the walk over the histories
pub mod WalkedHistories
-- refusals that are handed on
pub mod HandedOn
-- histories have one numbering at most
pub mod OneNumbering
-- no more histories are reached than there are
pub mod BoundedHistories
