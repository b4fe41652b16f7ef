-- the deterministic automaton of histories
pub mod Histories
-- its states numbered breadth first, as lists of moves
pub mod Numbering
-- what only private contracts cite
pub mod private
