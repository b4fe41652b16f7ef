-- local walks as walks of the checking game
pub mod Positions
-- down the decision of an entry
pub mod Descent
-- accepting runs as closed walks of the checking game
pub mod GuessedRuns
-- round entries and states
pub mod EntryLoops
-- refutations that were worked out by hand
pub mod WorkedRefutations
-- one first bad part at most
pub mod OneFault
-- problems whose graph a refutation is accepted for
pub mod Refuted
-- local walks are decided
pub mod DecidedWalks
-- what is asked of a spread is decided
pub mod DecidedSpreads
-- the condition on names is decided
pub mod DecidedNames
-- a refutation is accepted or has a first bad part
pub mod SomeFault
-- checking finds exactly one thing
pub mod OneFinding
-- flags of the names that stand in items
pub mod NamesStand
-- where a name comes from, as it is searched for
pub mod Sources
-- items and local traces found by their node
pub mod FoundByNode
-- names that are traced back, and the condition on names
pub mod NamesTraced
-- what checking parts one by one finds
pub mod PartsFound
-- what checking the branches of a decision finds
pub mod BranchesFound
-- what the tests of a `go` tell of its rules
pub mod GoFound
-- what checking the parts of an entry before its decision finds
pub mod EntryFound
-- what an accepted document tells, and documents that are written
pub mod Accepted
-- documents as they are read and rejected
pub mod Rejected
-- two graphs of one problem, and what a refutation asks of them
pub mod AlikeGraphs
-- checking a document finds one thing at most
pub mod OneVerdict
-- checking a document finds something
pub mod SomeVerdict
-- branches that began with a sequent
pub mod BegunBranches
-- a side that was chosen on a branch is taken back
pub mod TakenBack
