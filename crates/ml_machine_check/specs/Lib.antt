-- what is found of a machine or an environment
pub mod Checked
-- laws over the definitions alone
pub mod Laws
-- what only private contracts cite
pub mod private
