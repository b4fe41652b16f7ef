-- formulas
pub mod Formula
-- the names that stand in a formula
pub mod FormulaNames
-- the plain formula of a term
pub mod Term
-- what formulas mean
pub mod Meaning
-- texts by their items
pub mod TextLaws
-- propositions replaced by formulas
pub mod Replaced
-- bound and positive variables
pub mod Variables
-- which words are propositions, variables and actions
pub mod Spelling
-- problems
pub mod Problem
-- the canonical text
pub mod Canonical
-- the formulas that the program holds
pub mod WellFormed
-- the signs of texts
pub mod Signs
-- the grammar of texts
pub mod Grammar
-- texts as items
pub mod Text
-- variables at fault
pub mod VariableFaults
-- what is parsed, and what is refused
pub mod Parsing
-- laws of canonical texts and of what is parsed
pub mod ParsingLaws
-- what private contracts cite
pub mod private
