-- what each logic proves of its texts, said of all
pub mod Logics
-- formulas made of others
pub mod Connected
-- definitions, and what they are written out to
pub mod WrittenOut
-- formulas that are well formed but for their size
pub mod Sound
-- the lines of a head
pub mod HeadLines
-- a text is readable as a head exactly where it is one
pub mod ReadableHeads
-- a text is a head or has one first bad line
pub mod OneFault
-- what a text shows, it shows of one head and one body
pub mod Documents
-- a head, read line by line
pub mod HeadFronts
-- what is written is read back
pub mod ReadBack
-- graphs that differ in the numbers of their names alone
pub mod AlikeGraphs
pub mod MuAlike
pub mod PdlAlike
pub mod ClosuresAlike
-- graphs of problems of LTL
pub mod LinearGraphs
-- each state has an edge, or some is the first deadlock
pub mod Deadlocks
-- each state has exactly one, or some is the first fork
pub mod Forks
-- how many nodes the graph of a closure has
pub mod Closures
-- what each logic proves of its graphs, said of all
pub mod Graphs
-- each formula has a graph
pub mod SomeGraph
-- graphs with names and priorities that a program holds
pub mod HeldGraphs
-- structures of which a logic speaks
pub mod AdmittedStructures
