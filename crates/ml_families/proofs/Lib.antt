-- the positions of a game, listed
pub mod Listed
-- sets of nodes that local moves don't leave
pub mod Regions
pub mod Forms
-- steps at which nothing happens
pub mod Beginnings
pub mod Fresh
-- programs of one action
pub mod Acts
-- the games of the families
pub mod Steps
pub mod Loops
-- conjunctions
pub mod Flat
pub mod Trees
pub mod Conjunctions
-- what `bench` tells
pub mod Counted
