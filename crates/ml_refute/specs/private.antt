-- What nobody has to believe: what only private contracts cite.

-- the entries as they are found
pub mod Found
-- the refutation as it is put together
pub mod PutTogether
-- entries with the lists that they name
pub mod Tables
