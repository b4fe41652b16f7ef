-- words as structures, and which formulas they satisfy
pub mod Words
-- the automaton of a problem
pub mod WordAutomaton
-- the automaton with its states numbered, and its letters
pub mod Letters
-- what it accepts
pub mod Laws
-- what private contracts cite
pub mod private
