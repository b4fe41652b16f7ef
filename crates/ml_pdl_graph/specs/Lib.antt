-- the modal graph of a formula
pub mod PdlGraph
-- that it agrees with the formula's meaning
pub mod Laws
-- what private contracts cite
pub mod private
