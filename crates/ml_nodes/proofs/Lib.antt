-- walks for ever
pub mod EndlessWalks
-- lists that stand in a list
pub mod Holding
-- lists that stand in a graph
pub mod StandingLists
-- the lists of a connective
pub mod Connectives
-- numbers in range
pub mod InRange
-- names and priorities that a program holds
pub mod HeldNames
-- lists in which numbers come up in their order
pub mod FirstOccurrences
-- a closure has one graph at most
pub mod OneNumbering
-- a test that tells equal values
pub mod ValueTests
-- the graph of a list of values
pub mod GraphOfValues
-- some graph, or more values
pub mod SomeGraph
-- how large a graph is
pub mod OneSize
-- where the nodes of a closure hold
pub mod ClosureNodes
-- a draft of nodes, one node more
pub mod NumberedDrafts
-- the graph of a draft
pub mod NumberedClosures
-- names and priorities of the graphs of closures
pub mod HeldClosures
