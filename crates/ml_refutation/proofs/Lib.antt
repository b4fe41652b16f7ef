-- local walks through nodes of high priorities are decided
pub mod HighWalks
-- lists one behind the other in one list of numbers
pub mod Rows
-- entries name the lists that they named before
pub mod MoreLists
