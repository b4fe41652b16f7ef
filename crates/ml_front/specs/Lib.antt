-- formulas of all logics, and their texts
pub mod Logics
-- which formulas mean something, and which the program holds
pub mod WellFormed
-- formulas made of others, and how large they are
pub mod Connectives
-- propositions replaced by formulas
pub mod Replaced
-- definitions as the program holds them
pub mod Definitions
-- that exactly one of some propositions is true
pub mod Enumerations
-- problems, and where they hold
pub mod Problems
-- the graphs of problems
pub mod Graphs
-- the head of a document
pub mod Head
-- the rules of a head, and its first bad line
pub mod HeadRules
-- the numbers of its rules, as they are told
pub mod RuleNumbers
-- documents: a head, and a body behind it
pub mod Documents
-- laws of heads and graphs
pub mod Laws
-- what private contracts cite
pub mod private
