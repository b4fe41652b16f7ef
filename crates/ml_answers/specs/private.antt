-- how a line marks items by their names
pub mod Marks
-- words that are read one by one
pub mod Words
-- plain values of refutations
pub mod Plain
-- what the reader knows
pub mod Reads
-- what comes of answers
pub mod Judged
