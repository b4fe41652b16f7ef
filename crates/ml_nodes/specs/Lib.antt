-- the nodes of an occurrence
pub mod Nodes
-- graphs whose nodes stand for values
pub mod ClosureGraph
-- values that are numbered as they are met
pub mod NumberedValues
-- the propositions of a formula of CTL* or LTL
pub mod PathNames
-- graphs that are alike
pub mod AlikeNodes
-- what private contracts cite
pub mod private
