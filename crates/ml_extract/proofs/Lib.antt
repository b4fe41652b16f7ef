-- the decision game with a solution in which Even wins
pub mod Board
-- what the theorem is said of
pub mod Setting
-- what Even's moves choose, and where diamonds lead then
pub mod Choosing
-- states by their numbers, and edges
pub mod Numbering
-- what a play does at a state
pub mod AtNodes
-- a play leaves each state
pub mod LeavingStates
-- from a state to a next one
pub mod CrossedEdges
-- round states and nodes: the theorem
pub mod Loops
-- a graph, an arena and a solution have one model
pub mod OneModel
-- where the states begin
pub mod MetStates
-- Even's moves end
pub mod EndOfChoices
-- a model that was worked out by hand
pub mod WorkedModel
-- breadth-first lists as they grow
pub mod GrowingFirst
-- Even's move at a position that is won
pub mod WonEnds
-- states as they are numbered
pub mod NumberedStates
-- labels and edges as they are gathered
pub mod GatheredParts
-- what is known of a numbered state
pub mod StateParts
-- where Even wins, there is a model
pub mod SomeModel
-- one diamond makes one edge a state
pub mod OnlyEdge
-- labels and edges put in order
pub mod BuiltStructures
