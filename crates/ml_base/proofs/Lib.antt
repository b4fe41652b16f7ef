-- names, taken apart
pub mod Names
-- bytes given and bytes taken, piece after piece
pub mod Pieces
-- the propositions that a state lists
pub mod Listing
-- sets of numbers: what a search finds, and a number put in
pub mod IdSets
-- two ascending lists as one
pub mod Merging
-- the order of edges
pub mod Edges
-- sets of states
pub mod StateSets
-- the states with an edge by an action into a set, edge by edge
pub mod EdgeSets
