-- local walks
pub mod LocalWalks
-- choices, as lists of pairs
pub mod Choices
-- spreads, and what callers have in hand
pub mod OwnSpreads
-- the first node of an ascending list with a property
pub mod Firsts
-- causes of clashes
pub mod Causes
-- a choice with one side more
pub mod ChoicesWith
-- spreads under a choice with one side more
pub mod LongerSpreads
-- the search along local walks
pub mod Reaching
-- the nodes that a search marked
pub mod MarkedNodes
-- searches that go on from one child
pub mod LongerSearches
-- ways of the search, and local walks
pub mod RankedWalks
-- the triples of a step
pub mod Traces
-- what a search from a sequent found is its spread
pub mod SpreadFound
-- what callers have in hand meets what a step asks
pub mod StepPremises
-- searches with a floor, and closed local walks
pub mod Floors
-- closed local walks
pub mod LocalLoops
-- walks depth first along a path
pub mod PathWalks
-- lists of stages
pub mod FrameLists
-- their three steps
pub mod PathSteps
-- the least number with a property
pub mod LeastLoops
-- the last frame ends
pub mod PathCloses
-- each step lessens what is left
pub mod PathMeasures
-- odd priorities, one after the other
pub mod OddPriorities
-- the nodes that a branch reached
pub mod TrailNodes
-- the search of a spread along a trail
pub mod TrailSearches
-- choices with a side taken back
pub mod ChoicesWithout
-- branches: what a choice keeps
pub mod BranchSpreads
-- what is asked of a branch is told by its trail
pub mod BranchQuestions
pub mod Tournaments
pub mod NotedPlaces
pub mod NotedClashes
