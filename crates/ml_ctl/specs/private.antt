-- What private contracts and proofs cite; what texts and formulas mean is said without it.

-- the code of formulas
pub mod FormulaCode
-- the grammar as tables
pub mod Tables
-- the forms that the program holds
pub mod FormViews
-- what the reader of texts asks of a logic
pub mod Reader
-- signs of one kind do the same
pub mod Alike
-- what the program makes of formulas
pub mod HeldAs
-- what a formula keeps whose propositions are replaced
pub mod AsSound
