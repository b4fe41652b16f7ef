-- the model that Even's moves make
pub mod Model
-- what is true of it
pub mod Extraction
-- what only private contracts cite
pub mod private
