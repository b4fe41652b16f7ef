-- runs of a deterministic automaton along a word
pub mod Runs
-- machines against environments
pub mod CommonWords
-- the game over an automaton, by what is asked of it
pub mod Boards
-- rounds that follow a strategy
pub mod Rounds
-- words as plays of the game
pub mod WordPlays
-- the game of an arena
pub mod Arenas
-- equality of arrivals
pub mod Arrivals
-- arrivals that are met from a state with inputs
pub mod Answered
-- a game that is made vertex by vertex
pub mod Drafts
-- states that are numbered as they are met
pub mod RowsMet
-- where the choices of a solution lead
pub mod Choices
-- the steps of a machine, as they are made
pub mod MachineSteps
-- what an environment plays, as it is made
pub mod EnvironmentSteps
-- words along lassos of states that stand for states of an automaton
pub mod AlongWords
-- the machine of a winning strategy is right
pub mod MadeMachines
-- the environment of a winning strategy defeats all machines
pub mod MadeEnvironments
-- the positions of the game, and its vertices
pub mod Positions
-- automata over valuations
pub mod Automata
-- from the solution of the game to its outcome
pub mod Outcomes
-- each automaton has its game
pub mod SomeGames
-- a solution has a machine, and an environment
pub mod SomeMachines
pub mod SomeEnvironments
-- each automaton has an outcome
pub mod SomeOutcomes
