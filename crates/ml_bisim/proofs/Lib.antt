-- numbers that come in turn, by their places
pub mod Turns
-- edges and classes of a quotient
pub mod Classes
-- the game of a structure and that of its quotient
pub mod Carrying
-- no two states of a quotient are bisimilar
pub mod Smallest
-- numbers of keys, by a table
pub mod Tables
-- the parts into which a round cuts classes
pub mod Parts
-- a partition in which each state is settled
pub mod Stable
-- states by their labels
pub mod Labels
-- the quotient, made of classes
pub mod Merged
-- lists that are gone through
pub mod Passed
-- the places of a list, as they are linked
pub mod Links
-- the steps of a state, as they are gathered
pub mod Steps
-- members of a class, gone through
pub mod Scanning
-- lists of the members of classes
pub mod MemberLists
-- which parts keep the numbers of their classes
pub mod KeptParts
-- the names of parts
pub mod PartNames
-- how many different numbers stand in a list
pub mod Different
-- what a round makes of the classes
pub mod Splits
-- states that aren't settled any more
pub mod Settling
-- signatures, as they are made
pub mod Signed
-- the states that a round looks at, as they are chosen
pub mod ChosenStates
-- states get the names of their parts
pub mod Renaming
-- the states from which an edge leads to a state, gone through
pub mod Entering
-- numbers that come in turn are told by which of them are equal
pub mod OneRun
-- a structure has one quotient
pub mod OneQuotient
-- bisimilarity is an equivalence
pub mod Equivalent
-- that a list of a given length has a property is decided
pub mod FiniteSearch
-- bisimilarity is decided
pub mod DecidedBisimilar
-- the states of each structure have classes
pub mod SomeClasses
