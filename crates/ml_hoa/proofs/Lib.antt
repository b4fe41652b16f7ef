-- what closes a string or a comment
mod Closings
-- the pieces of a text
mod Pieces
-- guards behind some `!`
mod Negations
-- numbers up to a bound
mod Capped
-- the last edge is made accepting
mod LastEdges
-- what comes of tokens, with limits or without
mod Runs
-- labels are read to their end
mod LabelRuns
-- edges and states are read to their end
mod BodyRuns
-- headers are read to their end
mod HeadRuns
-- what is left within a label
mod LabelRests
-- what is read to its end is a text
mod Sound
-- what was read can be ended
mod Endings
-- what comes of a text is what the grammar tells
mod Outcomes
-- one piece, in what comes of the others
mod TokenSteps
-- what the reader holds is the automaton
mod Values
-- what is answered to a text
mod Answered
-- each text has one answer
pub mod OneAnswers
-- what texts are read as
pub mod ReadAutomata
