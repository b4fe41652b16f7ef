-- What private contracts and proofs cite; what is claimed and answered is said without it.

-- the first three rules at one vertex
pub mod Early
-- the game of ways
pub mod WayGame
-- the cycle to which choices lead
pub mod Cycles
-- vertices in an order with seams
pub mod Seams
-- what is told of the fourth rule
pub mod Fourth
