-- What private contracts cite.

-- which items a name can come from along a step
pub mod Sources
-- what checking parts in a row finds
pub mod Parts
-- what a branch keeps of what was made on it last
pub mod Stepping
-- what was read of a document
pub mod Shown
