-- which faults of `clap` are refusals
pub mod Refused
-- the statuses of decisions
pub mod Decisions
-- rows of the table of commands
pub mod Rows
-- the lines for what is found
pub mod Findings
-- inputs of commands
pub mod Inputs
-- what a call delivers, and what is said of it
pub mod Written
-- the statuses of outcomes
pub mod Outcomes
