-- lists within bounds as numbers, and what the code makes of them
pub mod Codes
-- the lists of a player's measures, as lists within bounds
pub mod Bounds
-- a measure in one flat list of numbers
pub mod Tables
-- what the lists of a player's measures look like
pub mod Scales
-- the moves of a game from behind, and the vertices that wait to be lifted
pub mod Waits
-- how a measure rises to the least progress measure
pub mod Lifting
-- winners and choices, as they are read off the measures
pub mod Choices
-- the structs of the program, as what they hold
pub mod Sides
