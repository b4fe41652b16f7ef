-- breadth-first lists as they grow
pub mod Begun
-- positions that Even's moves win, and where these moves end
pub mod WonPositions
-- states as they are numbered
pub mod Numbered
-- labels and edges as they are gathered
pub mod Gathered
