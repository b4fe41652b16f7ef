-- what the definition of the step says of stacks, names and histories
pub mod definition
-- the two cycle laws
pub mod cycle_laws
-- histories as trees, and the step on them
pub mod trees
-- histories as flat arrays, and the step on them
pub mod arrays
