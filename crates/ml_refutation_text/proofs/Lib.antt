-- lists, each once, and their places
pub mod EachOnce
-- in a table that has each list once, a list has one place
pub mod OnePlace
-- a number is spelt by one word
pub mod SpeltWords
-- lines in one form are the same
pub mod OneForm
-- what is written of a refutation is one text
pub mod OneWritten
-- what is known of places while lists are met
pub mod MetLists
-- lines and texts that are written part by part
pub mod WrittenLines
-- what stands in a table that is made of lists
pub mod TableEntries
-- what is written is a text of the refutation
pub mod WrittenTexts
-- what the words of written lines are read as
pub mod ReadWords
-- the lines of a refutation are good
pub mod GoodLines
-- the lines of entries and of a whole body are good
pub mod GoodEntries
-- good lines have neither blanks nor LFs in their words
pub mod PlainLines
-- a text is of one refutation at most
pub mod RefutationTexts
-- whether a line keeps the rules of its place is decided
pub mod JudgedLines
-- how many stacks a refutation has at most
pub mod StackCounts
-- texts worked out by hand
mod WorkedTexts
-- good lines are those of their values
pub mod ReadLines
-- what was read so far is what the place keeps
pub mod Standing
-- what has no bad line is a text of a refutation
pub mod ReadableTexts
-- the rules of a line rise by their numbers
pub mod RisingRules
-- words that are numbers, word by word
pub mod NumberWords
-- whether numbers ascend, tested one by one
pub mod AscendingTests
-- the lines of a decision that are read, and the first rules that others break
pub mod BranchLines
-- a decision with the splits that it completes
pub mod ClosedBranches
-- going from place to place through a text, and where it is refused
pub mod Going
-- a decision, read line by line
pub mod BranchesRead
-- the lines of the traces of an entry, and the first rules that they break
pub mod ItemLines
-- the traces of an entry, read line by line
pub mod TracesRead
-- the lines of the tables, and the first rules that they break
pub mod RowLines
-- the tables, read line by line
pub mod TablesRead
-- sequents and stacks that grow while entries are read
pub mod TablesGrow
-- entries, read line by line
pub mod EntriesRead
-- a whole body, read from its first line to its end
pub mod BodyRead
