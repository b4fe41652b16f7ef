-- words as structures
pub mod WordPlaces
-- the game on them, and what is read
pub mod WordBoards
-- what is accepted isn't lost
pub mod AcceptedRuns
-- what is asked of states without quantifiers
pub mod AtomItems
-- a strategy's turns from place to place
pub mod BlockTurns
-- what is won is accepted
pub mod SatisfiedRuns
-- the automaton accepts what satisfies
pub mod Acceptance
-- letters are sets
pub mod SameLetters
-- one automaton, and some automaton
pub mod BlockGraphs
-- graphs that are one but for their lists of names
pub mod AlikeGraphs
-- states of a graph, marked
pub mod MarkedStates
-- states of a graph, numbered
pub mod NumberedStates
-- walks from states, and the transitions with which they end
pub mod LetterWalks
-- walks by the numbers of propositions
pub mod LettersByNumbers
-- transitions by the numbers of states
pub mod HeldTransitions
-- runs carried over to another automaton
pub mod CarriedRuns
-- what rows of letters accept
pub mod RowsAccept
-- what is reached in the graph of a formula's block
pub mod BlockShapes
-- states that are True
pub mod SharedTop
-- the forms of nodes are decided
pub mod NodeForms
-- where letters lead is decided
pub mod DecidedLetters
-- states and transitions are listed
pub mod Listed
-- the automaton of F p, by hand
pub mod WorkedAutomaton
