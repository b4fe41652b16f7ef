-- What nobody has to believe: what the types of the program need.

-- what a refutation keeps is a proposition
pub mod Propositions
-- lists in one list of numbers
pub mod Rows
