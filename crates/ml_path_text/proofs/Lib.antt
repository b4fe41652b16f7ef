-- a problem has one path problem at most
pub mod PathProblems
-- the structure of a word is in order where its letters are
pub mod OrderedRuns
-- the structure of the word along a path
pub mod PathRuns
-- where a problem holds, by its path problem
pub mod Holding
-- what is found of the paths of a structure
pub mod Findings
-- what a text asks for, and its first bad line
pub mod Documents
-- something is found of each text, and one thing at most
pub mod OneFinding
-- the lines of a path
pub mod WrittenLines
-- whoever checks documents confirms a path
pub mod Confirmed
-- what is found beside what checking finds
pub mod BesideChecking
