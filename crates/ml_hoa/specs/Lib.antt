-- automata, as plain values
pub mod Automaton
-- the tokens of a text
pub mod Tokens
-- the grammar of automaton texts
pub mod Grammar
-- the automaton that a text stands for
pub mod AutomatonText
-- where texts are refused, and what is read
pub mod Refusals
-- what all texts that are written have alike
pub mod WrittenLines
-- what is true of texts and answers
pub mod Laws
-- what private contracts cite
pub mod private
