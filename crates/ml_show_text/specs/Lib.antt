-- which kind of document a text is read as
pub mod Kinds
-- the bodies of undecided documents
pub mod UndecidedBodies
-- the documents of undecided tasks
pub mod UndecidedTasks
-- which texts are shown, and where another one is refused
pub mod Shown
-- laws of these texts
pub mod Laws
-- what only private contracts cite
pub mod private
