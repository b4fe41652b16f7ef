-- problems
pub mod Problem
-- what is true of problems
pub mod Laws
