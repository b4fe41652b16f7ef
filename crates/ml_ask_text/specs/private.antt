-- What only private contracts cite: a reader of the public call needs none of it.

-- the document that is written
pub mod Written
