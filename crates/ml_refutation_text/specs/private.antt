-- what private contracts cite

-- what is known of a table while it is made
pub mod Collecting
-- how the program writes sequents and stacks
pub mod Filings
-- what the reader of a body knows
pub mod Reads
-- the stacks that were read
pub mod ReadRows
-- the sequents and stacks that a reader has
pub mod ReadTables
-- what it knows of words
pub mod WordReads
-- what it knows of the lines of an entry
pub mod ItemReads
-- what it knows of the lines of a decision
pub mod BranchReads
-- what it knows of tables and of the first lines of entries
pub mod EntryReads
-- what it knows of a whole body
pub mod BodyReads
-- the kinds of lines with a word and then numbers
pub mod ListKinds
-- the texts of refutations, line by line
pub mod TextLines
