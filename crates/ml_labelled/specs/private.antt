-- What only private contracts and proofs cite: a reader of the public calls needs none of it.

-- what the program holds, as plain values
pub mod Views
-- how states that are reached are found
pub mod Reaching
-- states with the same edges
pub mod Merging
-- edges that are left out, and flags that are changed
pub mod Trimming
-- when an automaton follows another one
pub mod Following
-- when edges that were found are those of an automaton
pub mod Fitting
-- when edges may be replaced by others
pub mod Replacing
