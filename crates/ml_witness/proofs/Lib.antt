-- positions from which Even wins, told by ranks
pub mod RankedWins
-- claims that are kept hold
pub mod KeptClaims
-- what the check looks through
pub mod LookedThrough
