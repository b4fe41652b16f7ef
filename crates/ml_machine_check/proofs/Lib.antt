-- words of valuations, as the automaton reads them
pub mod WordsRead
-- machines and environments as systems
pub mod AsSystems
-- what is found says one thing
pub mod OneCheck
-- something is found
pub mod SomeCheck
-- what the program reads of machines and environments
pub mod ReadRows
