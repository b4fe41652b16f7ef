-- the modal graph of a formula
pub mod MuGraph
-- what private contracts cite
pub mod private
-- binders in parity games
pub mod Binders
-- that it agrees with the formula's meaning
pub mod Laws
