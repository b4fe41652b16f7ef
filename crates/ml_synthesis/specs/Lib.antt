-- machines and environments, and their words
pub mod Machines
-- the realizability game over a deterministic automaton
pub mod Game
-- what is made, and why
pub mod Synthesis
-- laws over the definitions alone
pub mod Laws
-- what only private contracts cite
pub mod private
