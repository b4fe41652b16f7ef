-- truth along a path by labels alone
pub mod SameLabels
-- paths as the automaton reads them
pub mod ReadPaths
-- the start and state 0 with their numbers changed
pub mod Swapped
-- paths of the structure and words of the system
pub mod AsSystem
-- something is found, and one thing
pub mod OnePath
-- what is added to labels and rows
pub mod Grown
-- what is added to a system
pub mod Moves
-- words as structures
pub mod WordRuns
-- labels and edges, as the program gathers them
pub mod Gathered
-- lists that repeat themselves, and sequences that take the same values again
pub mod Periods
-- the endless sequence of a lasso
pub mod EndlessSequences
-- lassos that are made shorter, and those that can't be
pub mod ShorterLassos
-- paths that are told in fewer states
pub mod ShortPaths
