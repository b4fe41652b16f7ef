-- what tests of a refutation's parts come to
pub mod Tested
-- how many numbers pass a test
pub mod Passing
-- models of Even's moves have few edges
pub mod FewEdges
-- entries of one key stand together
pub mod Runs
-- what few edges tell
pub mod Edges
-- states that are reached
pub mod Reached
