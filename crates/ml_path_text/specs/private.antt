-- What only private contracts cite: a reader of the public call needs none of it.

-- why a logic doesn't speak of a structure
pub mod Unfits
