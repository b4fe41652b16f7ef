-- tests of nodes, and the first node of a list that passes one
pub mod Tests
-- local children as the program gives them
pub mod Children
-- the search, with the lowest priority on the way
pub mod Reach
-- where local walks leave a spread
pub mod Exits
-- strongly connected parts
pub mod ConnectedParts
-- the nodes that a branch reached, and how it is taken back
pub mod Trails
-- the least of numbers that come and go
pub mod Tournament
-- ranks that fall along local walks
pub mod Descents
-- what is noted of the nodes of a trail
pub mod Notes
