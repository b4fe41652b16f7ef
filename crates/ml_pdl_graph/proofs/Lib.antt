-- who wins the nodes of a graph
pub mod Players
-- programs in a graph
pub mod ProgramNodes
-- runs of programs as walks
pub mod Runs
-- where no run leads
pub mod Unmet
pub mod Traps
pub mod NoRuns
-- programs and infinite repetition
pub mod Programs
-- formulas by their operands
pub mod Connectives
-- the agreement of game and meaning
pub mod Agreement
-- a graph worked out by hand
mod WorkedGraph
-- the lists of a graph, as what stands there
pub mod NodeLists
-- the graph that was made
pub mod Made
-- numbers in range
pub mod InRange
-- the sizes of a formula's parts
pub mod PartSizes
-- the graph that the program makes, with names and priorities that a program holds
pub mod HeldGraph
