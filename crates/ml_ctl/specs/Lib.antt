-- formulas
pub mod Formula
-- the names that stand in a formula
pub mod FormulaNames
-- paths of a structure
pub mod Paths
-- what formulas mean
pub mod Meaning
-- problems
pub mod Problem
-- what has to come about
pub mod Eventualities
-- what is true of meanings
pub mod Laws
-- state formulas, and formulas of LTL
pub mod Sorts
-- formulas that begin with a quantifier
pub mod Quantifiers
-- propositions replaced by formulas
pub mod Replaced
-- that exactly one of some propositions is true
pub mod Enumerations
-- the plain formula of a term
pub mod Term
-- which words are propositions
pub mod Spelling
-- texts by their items
pub mod TextLaws
-- places of a lasso, and the places behind one
pub mod Unrolled
-- the formulas that the program holds
pub mod WellFormed
-- the signs of texts
pub mod Signs
-- the grammar of texts
pub mod Grammar
-- texts as items
pub mod Text
-- the canonical text
pub mod Canonical
-- what is parsed, and what is refused
pub mod Parsing
-- laws of canonical texts and of what is parsed
pub mod ParsingLaws
-- what private contracts cite
pub mod private
