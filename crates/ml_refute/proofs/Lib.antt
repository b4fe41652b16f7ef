-- the condition on names, carried along a map of states
pub mod CarriedNames
-- the step along a diamond, in the words of refutations
pub mod GoSteps
-- what stands in a decision
pub mod Decisions
-- the entries are positions that are reached
pub mod Entries
-- the graph of the go's
pub mod GoGraph
-- no rule is broken
pub mod Accepted
-- turns of the decision game, as vertices of its parity game
pub mod Turns
-- a go as a walk of the decision game
pub mod GoWalks
-- what is true of the vertices of entries
pub mod EntryVertices
-- no cycle of go's is even
pub mod GoCycles
-- the items of an entry are in order
pub mod Items
-- how deep decisions are
pub mod Sizes
-- an extracted refutation is a refutation
pub mod WellFormed
-- a spread has one first cause
pub mod FirstCauses
-- decisions from one position, with the entries numbered in two ways
pub mod Alike
-- the entries are numbered in one way
pub mod OnePositions
-- a solution makes one refutation
pub mod OneRefutation
-- an extracted refutation, worked out by hand
pub mod WorkedExtraction
-- what Odd's choice leads to
pub mod Progress
-- the entries are what Odd's moves reach
pub mod ReachedByOdd
-- what is done at a vertex that Odd wins
pub mod Leaving
-- entries as they are found
pub mod FoundEntries
-- the refutation, put together of them
pub mod PuttingTogether
-- a spread with a cause has a first one
pub mod SomeFirstCause
-- longest counts exist where no cycle is even
pub mod LongestCounts
-- entries exist where Odd wins
pub mod SomeEntries
-- a refutation exists where Odd wins
pub mod SomeRefutation
-- a branch at a position, and with a side more
pub mod BranchPositions
-- entries and items that are put behind others, with the lists that they name
pub mod NamedLists
