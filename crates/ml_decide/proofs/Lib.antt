-- the members of a list that have a property
pub mod SievedLists
-- something is done at each position
pub mod SomeTurn
-- the decision game has an arena, or passes the limit
pub mod SomeArena
-- the decision games of graphs that differ in the numbers of names have the same positions
pub mod SamePositions
-- the graphs of problems
pub mod ProblemGraphs
-- which problems may be answered
pub mod Closed
-- what is found in a graph of a problem decides it
pub mod Decided
-- decisions are exact, and agree
pub mod OneDecision
-- models with such names
pub mod NamedModels
-- each problem has an answer
pub mod SomeDecision
-- what the winner of the first position tells
pub mod Winners
-- what is found of a problem
pub mod Measures
