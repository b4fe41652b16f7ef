-- progress measures of a parity game
pub mod Measure
-- that the least measure tells who wins
pub mod Law
-- what the measures of both players and a solution say together
pub mod Measured
-- what only private contracts and proofs cite
pub mod private
