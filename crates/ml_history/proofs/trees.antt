-- Lemmas: histories as trees, and the step on them.

-- sets and rows of vertices, one more at a time
pub mod GrowingRows
-- items by ascending states
pub mod ItemsByState
-- forests: the states that lie in them, with their stacks
pub mod Forests
-- the tree of a history stands for a history
pub mod ProperTrees
-- the order of the places of a forest is the order of offers
pub mod Postorder
-- the first item of each state
pub mod FirstOffers
-- the tree of all offers
pub mod TreeOfOffers
-- a tree without repeats
pub mod FirstPlaces
-- the tree of the first offers is what the targets take
pub mod TreeOfFirstOffers
-- full vertices, and the cut on a tree
pub mod VerticalMerge
-- new ages, and the states of each vertex in their order
pub mod RenumberedTrees
-- the history step on trees is the history step
pub mod TreeSteps
-- rows of vertices in the program
pub mod RowsOfVertices
-- histories as the program keeps them
pub mod SmallTrees
-- the transitions that leave a state
pub mod LeavingTransitions
-- states that were seen
pub mod SeenStates
-- what the walk over a tree makes, vertex by vertex
pub mod WalkedVertices
-- flags for names, and the numbers that are counted from them
pub mod FlagsOfNames
-- the step of a history that the program holds, from its parts
pub mod TreeProgram
