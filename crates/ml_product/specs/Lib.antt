-- who moves at a position
pub mod Movers
-- positions of the decision game
pub mod Position
-- its moves, and what is reached
pub mod DecisionGame
-- the game as a list of positions
pub mod Arena
-- positions as an arena holds them
pub mod Placed
-- positions as an arena lends them
pub mod View
-- how many positions it has at most
pub mod Bound
-- what only private contracts cite
pub mod private
