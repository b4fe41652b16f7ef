-- sets of requirements, as they are made
pub mod TakenSets
-- what is decided of requirements
pub mod Judged
-- requirements that are refuted
pub mod Refuted
-- the numbers of requirements, one after the other
pub mod Numbers
-- answers in order
pub mod AnswersInOrder
