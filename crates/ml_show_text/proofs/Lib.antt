-- the lines of a text that tell its kind
pub mod KindLines
-- lines of an undecided document that were compared with fixed ones
pub mod CauseWords
-- the bodies of undecided documents
pub mod CauseBodies
-- the documents of undecided tasks, by their lines
pub mod UndecidedTasks
-- the title and the answer of the document of an undecided task, and what stands behind them
pub mod HeadLines
-- the lines of a task are cut out of a text
pub mod CutTasks
-- the task of an undecided document, as it is read
pub mod TaskRead
-- a text is a document of its kind, or it has one first bad line
pub mod OneReading
