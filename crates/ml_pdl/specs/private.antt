-- What private contracts and proofs cite; what texts and formulas mean is said without it.

-- the code of formulas
pub mod FormulaCode
-- the trees and forms that the program holds
pub mod FormViews
-- what the reader of texts asks of a logic
pub mod Reader
-- signs of one kind do the same
pub mod Alike
-- marks, told from bytes
pub mod MarkTests
-- what a formula or a program keeps whose propositions are replaced
pub mod AsSound
