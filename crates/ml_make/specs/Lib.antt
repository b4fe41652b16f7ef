-- answers to tasks
pub mod Making
-- laws over the definitions alone
pub mod Laws
-- what only private contracts cite
pub mod private
