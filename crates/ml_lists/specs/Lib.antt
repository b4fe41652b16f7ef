-- how many numbers below a bound pass a test
pub mod Counting
-- documents: lines that keep the rules of their places
pub mod Documents
-- what a search finds
pub mod Found
-- growing sequences of sets below a bound
pub mod Growing
-- a list of numbers with a loop start
pub mod Lasso
-- the last element of a list
pub mod Last
-- the lowest entry of a list of numbers
pub mod Lowest
-- a value that a sequence takes twice
pub mod Pigeons
-- reachability along a relation
pub mod Reach
-- which documents are readable, and how far they are read
pub mod Readings
-- a number below a bound with a property
pub mod Search
-- a function with one value changed
pub mod Update
-- what a function gives when it is applied again and again
pub mod Walk
-- membership of a list
pub mod Member
-- a list several times over
pub mod Repeated
-- ascending lists of numbers
pub mod Ascending
-- the least number that passes a test
pub mod Least
-- iterates of a function
pub mod Iterate
-- lists in which each element is above the one before it
pub mod Chains
-- how often a number stands in a list, and lists in which each stands once
pub mod Times
-- lists of which one has the members of another
pub mod Within
-- lists in breadth-first order
pub mod BreadthFirst
-- lists to which something is added
pub mod Added
-- numbers that come in turn
pub mod InTurn
