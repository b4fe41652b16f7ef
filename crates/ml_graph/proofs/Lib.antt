-- references of nodes, in range and out of range
pub mod References
-- the odd priorities
pub mod OddPriorities
-- places of names
pub mod Places
-- where edges lead, row by row
pub mod EdgeRows
-- which propositions are labels, flag by flag
pub mod Truths
-- the edges of a structure, state by state
pub mod EdgesLeft
-- how a checking game is made
pub mod Making
-- the checking game, vertex by vertex
pub mod CheckingGame
-- one step of the checking game
pub mod OneStep
-- who wins a checking game, and where the graph holds
pub mod Winners
