-- tasks
pub mod Task
-- sets of their names
pub mod NameSets
-- their texts
pub mod TaskText
-- laws on texts
pub mod Laws
-- what only private contracts cite
pub mod private
