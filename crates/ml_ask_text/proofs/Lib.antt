-- lists of bytes and of plain values
pub mod Lists
-- the verdict
pub mod Verdicts
-- lines, word by word
pub mod WrittenLines
-- the document that is written
pub mod WrittenDocuments
-- answers whose structures have a text
pub mod ShownReplies
-- something is told of each text
pub mod SomeTold
-- two things told of one text
pub mod ToldAlike
-- what is told of one specification
pub mod ToldBySpecification
