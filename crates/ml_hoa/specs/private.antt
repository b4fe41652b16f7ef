-- What private contracts and proofs cite; what a text stands for is said without it.

-- the code of automata
pub mod AutomatonCode
-- what the program holds, as plain values
pub mod Views
-- the reader's steps
pub mod Machine
