-- the loops that make and undo attractors
pub mod AttractLoops
-- attractors that are being made
pub mod Attracting
-- attractors in a part, and what is left of it
pub mod Attractors
-- the moves of a game from behind
pub mod Backwards
-- from games to boards and back
pub mod Boards
-- winners are carried from one game to another
pub mod Carried
-- the moves of a game in chains, one for each vertex to which they lead
pub mod ChainsOfMoves
-- the comparison of two games that differ at some vertices
pub mod Comparison
-- from an answer on the board of a game to a solution
pub mod Filled
-- rows that stand behind each other in one list
pub mod LaidRows
-- the frames of the fast solver
pub mod Frames
-- what the program reads in the fields of a game
pub mod GameFields
-- one number raised along one arc
pub mod HeightRaises
-- the two halves of a turn of the fast solver
pub mod Halves
-- rows of numbers as the program holds them, as heights
pub mod HeightRows
-- the search for a walk from one vertex to another, and for a cycle
pub mod HeightSearches
-- rows that grow by a column, and what they are in the end
pub mod HeightTables
-- walks in one-sided graphs: joined, cut, and counted
pub mod HeightWalks
-- winning is kept along plays that follow the strategy
pub mod AlongPlays
-- what waits is kept while a part is solved
pub mod WaitingFrames
-- the induction of the determinacy law, its first case
pub mod LeastKept
-- and its second case
pub mod LeastLost
-- finite memory is not needed
pub mod Memory
-- how often a number stands in a list
pub mod Occurrences
-- the one-step law
pub mod OneStep
-- the two players
pub mod Opponents
-- lists that are a game, and lists that are none
pub mod Refusals
-- loops over the places of a row
pub mod VertexOrderLoops
-- rows of vertices, and vertices that are moved to the end of a part
pub mod VertexOrder
-- every game with finitely many live vertices has a solution
pub mod Sinks
-- vertices with one move, and vertices that are forced to one
pub mod SingleMoves
-- what a solution tells
pub mod SolutionFacts
-- the turns of the fast solver
pub mod Turns
-- the whole game as a part of itself
pub mod Whole
-- who wins each vertex: the determinacy law
pub mod Winners
-- walks that follow a strategy
pub mod FollowedWalks
