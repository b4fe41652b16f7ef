-- right claims are won
pub mod Won
-- the claims of a solution are right
pub mod OfSolutions
-- the first three rules at one vertex
pub mod FirstRules
-- walks that go round
pub mod Rounds
-- the game of ways
pub mod WayGames
-- claims have a verdict
pub mod SomeVerdict
-- and one alone
pub mod OneVerdict
-- where the vertices are sorted, no cycle is bad
pub mod NoneBad
-- choices that lead round where the lowest priority is bad
pub mod BadCircles
