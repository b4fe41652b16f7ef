-- systems and their words
pub mod Systems
-- whether an automaton accepts one of them
pub mod Emptiness
-- laws over the definitions alone
pub mod Laws
-- what only private contracts cite
pub mod private
