-- guesses of automaton states whose numbers fit 32 bits
pub mod Guesses
-- refutations as plain data
pub mod Refutation
-- the plain refutation that one of the program stands for
pub mod Views
-- the step along which an entry is left for another one
pub mod GoStep
-- what a refutation asks of a graph: the rules of acceptance
pub mod Acceptance
-- what the types of the program need
pub mod private
