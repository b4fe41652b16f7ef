-- the propositions that are true under a valuation
pub mod PresentNames
-- the game over one automaton in that over another one
pub mod GameImages
-- the game over histories, and over their numbers
pub mod HistoryGame
-- what is made is right
pub mod RightOutcomes
-- what is played answers the task
pub mod Found
-- the games of the readings of a task
pub mod OneGame
-- each task has a reading
pub mod SomeReadings
-- some answer is due for each task
pub mod SomeOutcomes
-- no task has both
pub mod NeverBoth
