-- what is known of the lines of a head that were read
pub mod HeadParts
-- what is joined of the first ones of some formulas
pub mod JoinedSoFar
-- formulas that are well formed but for their size
pub mod Sound
