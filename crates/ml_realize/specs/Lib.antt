-- machines that realize a task, and environments that defeat it
pub mod Realizing
-- the game of a task, and what is found
pub mod TaskGame
-- laws over the definitions alone
pub mod Laws
-- what only private contracts cite
pub mod private
