-- the truth values of formulas along a lasso
pub mod Values
-- the path from each state
pub mod Words
-- the truth values of formulas at states, and of nodes
pub mod StateValues
pub mod NodeValues
-- which nodes are on cycles
pub mod Levels
-- the moves of the checking game
pub mod Moves
-- plays, and loops of plays
pub mod Plays
-- who wins a loop
pub mod Cycles
-- on words negation is complement
pub mod Complement
-- the agreement of game and meaning
pub mod Agreement
-- how many nodes a graph has
pub mod Sizes
-- what is satisfiable on words, and on paths
pub mod Satisfiable
-- how many nodes are reached
pub mod FewReached
-- where the nodes of all occurrences stand
pub mod Laid
-- the propositions of nodes
pub mod NamedNodes
-- what is made of a formula
pub mod Made
-- what is told of results
pub mod OkResults
-- one node alone is a diamond
pub mod OneDiamond
-- names and priorities that a program holds
pub mod HeldGraph
-- nodes are equal or not
pub mod PlaceEquality
-- one graph, and some graph
pub mod ClosureGraphs
