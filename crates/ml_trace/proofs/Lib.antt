-- the order of marks
pub mod MarkOrder
-- runs along a word: joined, and with an accepting transition
pub mod Runs
-- names of stacks
pub mod Stacks
-- a name traced back along a path
pub mod TraceBack
-- the theorem on loops of marked steps
pub mod OddLoop
-- the transitions of a letter are those that the triples give
pub mod LetterLemmas
-- the numbering is one-to-one
pub mod Numbers
-- marks as numbers
pub mod Priorities
