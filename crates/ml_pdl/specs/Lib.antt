-- formulas and programs
pub mod Formula
-- the names that stand in a formula or a program
pub mod FormulaNames
-- that marks are those of tests
pub mod MarkLaws
-- what formulas and programs mean
pub mod Meaning
-- problems
pub mod Problem
-- propositions replaced by formulas
pub mod Replaced
-- stars and infinite repetitions without iterates
pub mod Laws
-- the plain formula of a term
pub mod Term
-- which words are propositions and actions
pub mod Spelling
-- texts by their items
pub mod TextLaws
-- the formulas that the program holds
pub mod WellFormed
-- the signs of texts
pub mod Signs
-- which parentheses are marked
pub mod Marks
-- the grammar of texts
pub mod Grammar
-- the grammar as tables
pub mod Tables
-- texts as items
pub mod Text
-- the canonical text
pub mod Canonical
-- what is parsed, and what is refused
pub mod Parsing
-- laws of canonical texts and of what is parsed
pub mod ParsingLaws
-- what private contracts cite
pub mod private
