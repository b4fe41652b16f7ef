-- what is found of the paths from a state
pub mod Paths
-- lassos that are as short as they can be
pub mod Shortest
-- words as structures
pub mod Runs
-- laws over the definitions alone
pub mod Laws
-- what only private contracts cite
pub mod private
