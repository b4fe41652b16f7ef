-- automata whose edges have cubes
pub mod Labelled
-- equality of cubes
pub mod CubeEquality
-- their texts
pub mod LabelledText
-- what is true of them
pub mod Laws
-- what private contracts cite
pub mod private
