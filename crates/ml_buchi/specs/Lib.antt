-- valuations, as the letters of an automaton
pub mod Valuations
-- the deterministic automaton of an automaton with guards
pub mod Deterministic
-- the text of a deterministic automaton
pub mod WrittenText
-- what private contracts cite
pub mod private
