-- the tokens of numbers, names and marks
pub mod WrittenTokens
-- labels
pub mod ReadLabels
-- edges and states
pub mod ReadStates
-- the whole text
pub mod ReadTexts
-- guards lead as cubes do
pub mod GuardedEdges
-- marks that spread along edges
pub mod SpreadMarks
-- rows with marks that are kept
pub mod KeptRows
-- edges that lead to new numbers
pub mod Retargeted
-- runs carried over to another automaton
pub mod CarriedRuns
-- the part that is reached accepts the same
pub mod ReachedParts
-- runs carried over where a transition says where its copy ends
pub mod ChosenRuns
-- states with the same edges
pub mod MergedStates
-- the part that is reached exists
pub mod SomeParts
-- runs where edges are left out and flags are changed
pub mod TrimmedRuns
-- so it is of automata
pub mod TrimmedEdges
-- edges that are kept one after the other
pub mod KeptEdges
-- runs that another automaton follows
pub mod FollowedRuns
-- so what an automaton accepts that another one follows
pub mod FollowedAutomata
-- edges that are replaced
pub mod ReplacedEdges
