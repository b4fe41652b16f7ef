-- Lemmas: the two cycle laws.

-- the first law
pub mod FirstLaw
-- the stacks that a run meets
pub mod FollowedRuns
-- a constant front of the stacks round a loop
pub mod ConstantFront
-- one step at a constant front
pub mod FrontStep
-- the second law
pub mod SecondLaw
