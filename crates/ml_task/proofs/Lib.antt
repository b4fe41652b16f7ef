-- the words of a line, read as names
pub mod NamesRead
-- the line of the formula
pub mod FormulaRead
-- whether a line keeps the rules of its place is decided
pub mod JudgedLines
-- a text is readable exactly where it is one of a task
pub mod ReadableTasks
-- a text that is read line by line
pub mod ReadTasks
-- a text is one of a task or has one first bad line, never both
pub mod OneAnswer
