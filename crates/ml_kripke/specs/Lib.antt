-- lines of the body of a structure's text, by their names
pub mod BodyLines
-- of which parts a structure is built, and what it has
pub mod Built
-- ordered structures, and what a structure is built from
pub mod Ordered
-- the text of a structure with a start
pub mod ModelText
-- laws of ordered structures
pub mod Laws
-- the rules of a body, and its first bad line
pub mod BodyRules
-- the numbers of the rules of a body
pub mod RuleNumbers
-- structures in which each state goes on
pub mod Total
-- what private contracts cite
pub mod private
