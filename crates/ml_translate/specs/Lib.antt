-- the places of a word automaton
pub mod Places
-- the automaton of a formula
pub mod Translation
-- what is written of it
pub mod Output
-- what is true of places and texts
pub mod Laws
-- what private contracts cite
pub mod private
