-- what is found in the document of a machine or an environment
pub mod Found
-- laws over the definitions alone
pub mod Laws
-- what only private contracts cite
pub mod private
