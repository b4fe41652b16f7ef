-- words, and problems
pub mod Problem
-- the modal graph of a formula
pub mod WordGraph
-- that it agrees with the formula's meaning
pub mod Laws
-- what private contracts cite
pub mod private
