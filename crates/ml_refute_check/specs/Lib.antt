-- what an accepted refutation tells
pub mod Soundness
-- what an accepted refutation tells of a problem
pub mod Problems
-- what checking a refutation against a graph finds
pub mod Findings
-- documents that show a refutation, and what checking one finds
pub mod Documents
-- the document that is written, as bytes
pub mod WrittenDocument
-- laws of these documents
pub mod Laws
-- what private contracts cite
pub mod private
