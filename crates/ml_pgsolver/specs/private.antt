-- What private contracts and proofs cite; what a text stands for is said without it.

-- tokens as the reader knows them
pub mod Signs
-- the reader's steps
pub mod Machine
-- the steps of the reader of solutions
pub mod EntryMachine
-- the word between a game and its solution
pub mod WordSearch
-- what is made of the entries of a solution
pub mod Claiming
-- what the reader holds
pub mod Rows
-- what is made of the rows
pub mod Assembled
