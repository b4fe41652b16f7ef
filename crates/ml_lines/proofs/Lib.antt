-- the digits of a number, one behind the others
pub mod Digits
-- a line, word by word
pub mod Words
-- lines written one behind the other
pub mod Lines
-- a text has one list of lines
pub mod Unique
-- where a list of bytes is cut
pub mod Cuts
-- which words spell numbers
pub mod Numbers
-- numbers are words
pub mod WordBytes
-- a written text has the lines that were written
pub mod WrittenLines
-- a text and its first line
pub mod LineFronts
-- the first bad line of a text, by any format
pub mod Faults
-- texts that begin with lines that were read
pub mod Fronts
-- what is asked of words is decided
pub mod DecidedWords
-- texts that stand in one line, put together
pub mod InLine
-- words that have neither a blank nor an LF
pub mod PlainWords
