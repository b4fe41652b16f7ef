-- what is found
pub mod Found
-- the whole decision game, solved
pub mod WholeGame
-- what only private contracts cite
pub mod private
