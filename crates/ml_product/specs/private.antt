-- how positions are held
pub mod Shared
-- positions as they are stored
pub mod Links
-- tables of keys, with a number for each
pub mod Numbers
-- the positions so far
pub mod Pools
-- what is recorded of a position
pub mod Recorded
-- the steps of the exploration
pub mod Exploring
