-- the longest spelling of a table with which a text begins
pub mod Signs
-- the token at the front of a text, and the tokens from a byte on
pub mod Scan
-- bytes are no blanks where they are letters or stand in words
pub mod ByteKinds
-- what is known of the bytes of a token
pub mod Spelling
-- the token at the front is the longest, and there is only one
pub mod Longest
-- the tokens of a text follow one another, and only blanks stand beside them
pub mod Cover
-- for callers: what one answer of the scanner says of the bytes of the text
pub mod NextToken
-- levels of operators
pub mod Levels
-- levels of connectives, from the tighter to the looser
pub mod LooserLevels
-- levels of connectives as numbers
pub mod LevelNumbers
-- the machine finds what a text stands for
pub mod Complete
-- what the machine finds, the text stands for
pub mod Sound
-- signs that begin a text, and signs that begin none
pub mod Viable
-- the first items of a text
pub mod FirstItems
-- relations that are the one of the tables
pub mod Fits
-- what is at fault at an item
pub mod ItemFaults
-- what comes of a text within limits is exact
pub mod Exact
-- a step, split as a program does it
pub mod Reduce
-- a text has one answer
pub mod OneAnswer
-- the tokens of a text that is put together
pub mod Scans
-- the pieces of printed texts
pub mod Pieces
-- the sign with which an operand begins
pub mod Fronts
-- relations by which the same signs stand for something
pub mod SameTexts
-- the stack that a program holds
pub mod Stacks
-- signs that do the same, but for what they make
pub mod Alike
-- what comes of an item
pub mod ItemSteps
-- words by their first letter
pub mod FirstLetters
-- words as names
pub mod WordNames
-- names among others, each once
pub mod NameLists
-- names with their kinds
pub mod Names
-- the items of a text by a table of signs
pub mod TableItems
-- texts that keep the limits
pub mod AcceptedTexts
-- reserved words
pub mod ReservedWords
-- words that a logic doesn't reserve
pub mod FreeWords
-- signs, those of all logics and those that a logic adds
pub mod NamedSigns
-- bytes that stand in no word
pub mod WithoutByte
