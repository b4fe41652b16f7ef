-- documents with a structure, and what checking one finds
pub mod Checked
-- the document that is written
pub mod WrittenDocument
-- what is true of them
pub mod Laws
