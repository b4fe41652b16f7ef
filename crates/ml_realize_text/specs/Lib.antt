-- the documents of realizability
pub mod RealizeText
-- what a document stands for, where it is read
pub mod ReadText
-- where it is refused
pub mod RealizeRules
-- laws of these documents
pub mod Laws
-- what only private contracts cite
pub mod private
