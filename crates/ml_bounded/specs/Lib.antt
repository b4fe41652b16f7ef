-- formulas with bounded operators
pub mod Formula
-- the names that stand in a formula
pub mod FormulaNames
-- the plain formula of a term
pub mod Term
-- formulas written out
pub mod WrittenOut
-- numbers in texts
pub mod Numbers
-- the signs of texts
pub mod Signs
-- which words are propositions
pub mod Spelling
-- the grammar of texts
pub mod Grammar
-- texts as items
pub mod Text
-- texts by their items
pub mod TextLaws
-- the formulas that the program holds
pub mod WellFormed
-- what is parsed, and what is refused
pub mod Parsing
-- what private contracts cite
pub mod private
