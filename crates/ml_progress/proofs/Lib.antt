-- lists within bounds as numbers
pub mod Codes
-- levels, and the least value with which a move progresses
pub mod Levels
-- progress in the lists and in their codes
pub mod Progress
-- cut lists of different lengths
pub mod Cuts
-- from a progress measure to a winning strategy
pub mod Winning
-- how many vertices of a priority a strategy leads to
pub mod Visits
-- ascending lists, cut at a number
pub mod CutPlaces
-- from a winning strategy to a progress measure
pub mod RegionMeasure
-- the least measure tells who wins
pub mod WhoWins
-- the list that comes next, within bounds
pub mod NextLists
-- a measure in one flat list of numbers
pub mod FlatTables
-- the bounds and the cuts of a player
pub mod Scales
-- the moves of a game in chains
pub mod MoveChains
-- lists that were lent as slices, and come back
pub mod HandedBack
-- the queue of the vertices that wait
pub mod Queues
-- lifting keeps low, settles a vertex, and comes to an end
pub mod LiftedMeasures
-- cut levels, compared as the program does
pub mod CutLevels
-- a vertex as the program lifts it
pub mod LiftSteps
-- the measure with which lifting begins
pub mod FirstTables
-- a measure that rises, while vertices wait
pub mod RisingMeasures
-- moves that progress, as the program tests them
pub mod TestedMoves
-- winners and choices, and the solution that they are
pub mod ToldSolutions
-- there is a least measure
pub mod SomeLeast
-- and a solution that both tell
pub mod SomeMeasures
-- and one solution at most
pub mod OneMeasured
