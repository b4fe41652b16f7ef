-- What only private contracts and proofs cite: a reader of the public call needs none of it.

-- the lines of the body of an undecided document
pub mod CauseLines
-- the lines of the document of an undecided task
pub mod TaskLines
