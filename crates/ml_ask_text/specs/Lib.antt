-- what is told of a text
pub mod Told
-- what is true of it
pub mod Laws
-- what only private contracts cite
pub mod private
