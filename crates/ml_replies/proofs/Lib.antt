-- which items are chosen
pub mod Chosen
-- where formulas are true, and joined ones
pub mod Truths
-- from each state goes one word
pub mod OneWord
-- checking each formula is enough
pub mod Checks
-- the problems of a question are of the logic
pub mod ProblemLogics
-- what comes of checking a structure
pub mod Verdicts
-- the formulas of a specification are well formed
pub mod WellFormedItems
-- formulas that are joined are well formed
pub mod WellFormedJoins
-- exactly one thing comes of checking a structure
pub mod OneCheck
-- fewer requirements can be met wherever more can
pub mod FewerRequirements
-- what an answer says of requirements and structures
pub mod RightAnswers
-- no question has both answers
pub mod NeverBoth
-- sets of requirements, as lists
pub mod Taken
-- conflicts, one after the other
pub mod Conflicts
-- `tt` is satisfiable
pub mod Truth
-- each question has an answer
pub mod SomeReply
-- each specification has answers
pub mod SomeReplies
