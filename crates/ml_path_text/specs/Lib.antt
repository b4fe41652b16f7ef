-- what a path is asked to show
pub mod PathProblems
-- a path as it is written
pub mod WrittenPath
-- what is found of the paths of a document
pub mod Found
-- what is true of it
pub mod Laws
-- what only private contracts cite
pub mod private
