-- the texts of refutations
pub mod RefutationText
-- the text that is written of a refutation, line by line
pub mod WrittenText
-- kinds of lines
pub mod LineKinds
-- the rules of a body, and its first bad line
pub mod BodyRules
-- the numbers of these rules
pub mod RuleNumbers
-- the text that is written of a refutation, by its format
pub mod Canonical
-- the lines at which the parts of entries begin
pub mod PartLines
-- laws of these texts
pub mod Laws
-- what private contracts cite
pub mod private
