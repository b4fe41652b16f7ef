-- What private contracts and proofs cite; what texts and formulas mean is said without it.

-- the grammar of texts as tables
pub mod Tables
-- the forms that the program holds
pub mod FormViews
-- what the reader of texts asks of a logic
pub mod Reader
-- signs of one kind do the same
pub mod Alike
-- how the program holds binders and standings
pub mod VariableViews
-- the sets that variables mean, where the evaluator holds them
pub mod Environment
-- the code of formulas
pub mod FormulaCode
-- what a formula keeps whose propositions are replaced
pub mod AsSound
