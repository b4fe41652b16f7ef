-- comments
pub mod Comments
-- items and their parts
pub mod Items
-- kinds of items
pub mod Kinds
-- words with their places
pub mod Words
-- the parts of an item, and where they stand
pub mod ItemParts
-- what an item says by itself
pub mod Statements
-- what is known behind some statements
pub mod Known
-- what statements mean
pub mod Meaning
-- lines and columns
pub mod Places
-- the formulas of requirements and of a question
pub mod Joined
-- questions
pub mod Questions
-- specifications and their texts
pub mod Specification
-- the rules that a text may break, by their numbers
pub mod RuleNumbers
-- why a text is no specification
pub mod Faults
-- items as a reader comes to them
pub mod Scan
-- what the requirement of an enumeration says
pub mod ExactlyOne
-- laws on texts
pub mod Laws
-- what private contracts cite
pub mod private
