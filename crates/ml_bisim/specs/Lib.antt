-- bisimilar states
pub mod Bisimilar
-- the quotient of a structure
pub mod Quotient
-- laws of quotients
pub mod Laws
-- what private contracts cite
pub mod private
