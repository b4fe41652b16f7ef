-- the moves of a game in chains, one for each vertex to which they lead
pub mod Chains
-- rows that stand behind each other in one list
pub mod FlatRows
-- the steps of the search for heights
pub mod HeightSteps
-- parts of a board, attractors, and the halves of a turn of the solver
pub mod Parts
-- games with sinks on a parity game, as lists
pub mod SinkGame
-- games with sinks, in which the induction of the determinacy law goes
pub mod Sinks
-- the frames of the solver
pub mod SolverFrames
-- the steps of the solver, on its lists
pub mod SolverSteps
