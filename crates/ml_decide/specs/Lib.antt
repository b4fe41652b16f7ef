-- which problems stay undecided
pub mod Limits
-- what a problem is decided to be
pub mod Decision
-- how large the graphs and the games of problems are
pub mod Measures
-- what private contracts cite
pub mod private
-- laws of decisions and of decision games
pub mod Laws
