-- what formulas tell of states
pub mod Told
-- problems and the quotient of a structure
pub mod Laws
