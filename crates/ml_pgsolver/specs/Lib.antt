-- the tokens of a text
pub mod Tokens
-- the longest token at the front of a text
pub mod Longest
-- the grammar of game texts
pub mod Grammar
-- the game that a text stands for
pub mod GameText
-- where texts are refused, and what is read
pub mod Refusals
-- the grammar of a solution behind a game
pub mod SolutionGrammar
-- a game's text with a solution behind it
pub mod CheckedText
-- the text of a solution
pub mod SolutionText
-- what is true of texts and answers
pub mod Laws
-- what private contracts cite
pub mod private
