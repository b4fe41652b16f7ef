-- numbered parts, with a separator between each two
pub mod Parts
-- names with a number
pub mod NumberedNames
-- conjunctions of any logic, and texts of each, of any length
pub mod Chains
pub mod MuChains
pub mod LtlChains
pub mod PdlSequences
-- parts that are joined
pub mod Joined
-- how many occurrences formulas have
pub mod Occurrences
-- the texts of the families are parsed
pub mod FamilyTexts
