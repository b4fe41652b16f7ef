-- What only private contracts and proofs cite: a reader of the public calls needs none of it.

-- the transitions of a letter, in the order in which they are made
pub mod LetterMoves
