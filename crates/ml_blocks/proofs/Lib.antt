-- steps on properties of places
pub mod SteadySteps
-- rows of plain propositions
pub mod RowConnectives
-- truth is decided
pub mod DecidedTruth
-- what rows say, item by item
pub mod RowsOfItems
-- eventualities come true
pub mod ComingTrue
-- members of sets of items
pub mod ItemSetMembers
-- items that come of a formula
pub mod ItemsWithin
-- what follows an item
pub mod ItemsFollow
-- runs of a block at one place
pub mod LocalRuns
-- vertices of the game, by nodes as values
pub mod PlaceVertices
-- what items become is lighter
pub mod LighterRows
-- steps of the game within a block
pub mod BlockSteps
-- what rows put off
pub mod RowShapes
-- what items say, each by itself
pub mod SaidItems
-- a path that satisfies all items of a block
pub mod PathsWin
-- how often the focus moves on
pub mod FocusRanks
-- the walk along a strategy that wins a block
pub mod BlockWalks
-- where a block is won, some path satisfies it
pub mod WinsGivePath
-- all items are reached
pub mod ReachedItems
-- who wins a block
pub mod BlocksTold
-- graphs agree with problems
pub mod Agreement
-- graphs worked out by hand: what is to be seen of them
pub mod ListedGraphs
-- a graph worked out by hand
mod WorkedGraph
-- nodes are equal or not
pub mod PlaceEquality
-- graphs of closures
pub mod ClosureGraphs
-- edges go on where a graph holds
pub mod EdgesGoOn
-- what is kept of occurrences
pub mod SpreadLists
-- what is kept of a formula, and of its operands
pub mod KeptFormulas
-- rows by numbers
pub mod NumberedRows
-- lists of items by numbers
pub mod NumberedSets
-- eventualities that are gathered along a formula
pub mod WantedEventualities
-- which eventuality is the next in focus
pub mod FocusTurns
-- forms by numbers
pub mod NumberedForms
-- when nodes by numbers are equal
pub mod SpotEquality
-- what nodes by numbers stand for
pub mod ViewedSpots
-- what is made of a formula
pub mod GraphMade
-- graphs with names and priorities that a program holds
pub mod HeldGraphs
-- places that are reached, all in one finite list
pub mod ReachedPlaces
-- sets of items, in order, are finitely many
pub mod OrderedItems
-- what is reached from a block is finite
pub mod FiniteBlocks
-- closures are finite
pub mod FiniteClosures
