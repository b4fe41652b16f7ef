-- What private contracts and proofs cite; what a text stands for is said without it.

-- the machine that reads the texts of a grammar
pub mod Machine
-- how a text is read within limits
pub mod Reading
-- how a program holds the tables of a grammar
pub mod Tables
-- forms, frames and states that a program holds
pub mod Views
-- what a program has read of a text
pub mod Progress
-- codes of trees
pub mod Codes
