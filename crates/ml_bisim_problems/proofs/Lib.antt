-- problems hold at classes where they hold at states
pub mod Carried
-- states that no formula tells apart are bisimilar
pub mod Alike
-- no structure that says the same is smaller than the quotient
pub mod Smallest
