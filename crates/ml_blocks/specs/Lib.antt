-- closures of blocks, of which a graph is made
pub mod BlockClosures
-- how large the closure of a problem is, and its graph
pub mod ClosureLaws
-- items of a path, and how they are decomposed
pub mod Items
-- what items say, and that rows say the same
pub mod Laws
-- sets of items
pub mod ItemSets
-- the nodes, as values
pub mod Places
-- the modal graph
pub mod BlockGraph
-- how large a closure is
pub mod Closures
-- that it is finite
pub mod FiniteClosures
-- that it agrees with the problem
pub mod Agreement
-- that it is one
pub mod OneGraph
-- that edges never end where it holds
pub mod EdgesGoOn
-- what private contracts cite
pub mod private
