-- states out of range, and lists whose states are all in range
pub mod Range
-- the labels of each state in a row
pub mod LabelRows
-- a search among the labels of a state
pub mod Labels
-- the rows of labels in ascending order
pub mod RowOrder
-- ordered lists make the structure that was asked for
pub mod Build
-- the text of a structure, line by line
pub mod WrittenStates
-- an ordered structure is determined by what it has
pub mod OneStructure
-- the text of a model belongs to one model
pub mod OneText
-- the first rule that a line breaks, place by place
pub mod BrokenRules
-- whether a line keeps the rules of its place is decided
pub mod JudgedLines
-- the good lines of a body are those of its parts
pub mod GoodLines
-- refusals that tell the first bad line
pub mod ToldFaults
-- the labels of a state's line, word by word
pub mod LabelWords
-- the lines of a body's parts are read
pub mod BodyReads
-- bad lines behind the parts that were read
pub mod BodyFaults
-- models and the parts of their bodies
pub mod ModelParts
-- a body is readable exactly where it is the text of a model
pub mod ReadableBodies
-- the least state that doesn't go on
pub mod DeadStates
-- a text is a model's or has one first bad line
pub mod OneFault
