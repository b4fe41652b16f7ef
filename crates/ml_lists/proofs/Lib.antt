-- how many numbers below a bound pass a test
pub mod Counting
-- propositions that are decided
pub mod Decided
-- documents are readable or have one first bad line, never both
pub mod Documents
-- growing sequences of sets come to rest
pub mod Growing
-- lassos, as lists and as sequences
pub mod Lasso
-- sequences, and sequences that come back to where they began
pub mod Loops
-- the lowest entry of a list of numbers
pub mod Lowest
-- the pigeonhole principle
pub mod Pigeons
-- reachability along a relation
pub mod Reach
-- bounded search
pub mod Search
-- a binary search in a list that ascends by an order
pub mod Searched
-- lassos as endless sequences
pub mod Unrolling
-- a function with one value changed
pub mod Update
-- walks of a function, and the lassos that they make
pub mod Walks
-- membership of a list
pub mod Member
-- a loop in a finite set in which each member has a predecessor
pub mod Predecessors
-- a list several times over
pub mod Repeated
-- ascending lists of numbers
pub mod Ascending
-- the least number that passes a test
pub mod Least
-- numbers that pass a test, numbered in their order
pub mod Ranks
-- iterates of a function
pub mod Iterates
-- what a list contains
pub mod Members
-- strictly increasing lists, as std says it, by recursion
pub mod Increasing
-- tables: lists with an entry for each number
pub mod Tables
-- strictly ascending lists are determined by what they contain
pub mod StrictlySorted
-- lists in which each element is above the one before it
pub mod Chains
-- rows of one width, one behind the other
pub mod Grids
-- lassos along a map
pub mod MappedLasso
-- the numbers from one on
pub mod Ranges
-- entries of lists, found by a place or by a test
pub mod Entries
-- answers of comparisons, one after the other
pub mod Orderings
-- propositions and their truth values
pub mod Says
-- lists of numbers that std has sorted
pub mod Sorted
-- lists in another order
pub mod Permuted
-- how often a number stands in a list
pub mod Times
-- lists of which one has the members of another
pub mod Within
-- lists in the order of a relation
pub mod InOrder
-- breadth-first lists
pub mod BreadthFirst
-- lists to which something was added
pub mod Added
-- numbers that come in turn
pub mod InTurn
-- numbers that stand in their order when they come first
pub mod ComesFirst
-- first entries, and numbers of entries
pub mod FirstEntries
-- different members of a list are no more than its entries
pub mod Different
-- breadth-first search among values
pub mod BreadthFirstSearch
-- propositions that are decided: one under another, and all or some of finitely many
pub mod Deciding
-- whether one number leads to another along a decided relation
pub mod DecidedReach
-- rows of numbers that come in turn, in breadth-first order
pub mod RowsInTurn
-- entries that are found by a key
pub mod Keyed
-- what holds of each element of lists that are put together
pub mod AllOf
-- lists that are written part by part
pub mod WrittenParts
-- sets of the numbers below a bound that pass a test
pub mod PassingBelow
-- numbers that don't stand in a list, told by a test
pub mod Absent
-- lines that lead from one place of a format to another
pub mod Runs
-- each list has one with the same entries that strictly ascends
pub mod SortedLists
-- two tests together
pub mod BothTests
