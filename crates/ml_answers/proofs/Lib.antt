-- texts cut at their lines
pub mod FirstLines
-- marks of items, and the names by which they are told
pub mod Marking
-- words behind `because`, cut at `perhaps:`
pub mod Splitting
-- items that are marked one by one
pub mod Scanning
-- cores, and the marks of the items that they name
pub mod MarkedCores
-- reading on, from place to place
pub mod Reading
-- lines of answers, and what they tell
pub mod AnswerLines
-- bodies that name requirements, read part by part
pub mod PartsRead
-- texts of answers, one behind the other
pub mod AnswerTexts
-- documents, read answer by answer
pub mod DocumentRead
-- requirements that are told by flags
pub mod SameSets
-- what comes of answers, one after the other
pub mod Judgments
-- nothing is both shown and wrong
pub mod NeverWrong
-- what is read answers questions of the specification
pub mod Judgable
-- answers that are all shown are those of the specification
pub mod RightAnswers
-- what is found of a text
pub mod Found
-- refutations checked in a graph of a problem
pub mod Refuted
-- flags from which others are left out
pub mod Leaving
-- the next answer, where answers are judged one after the other
pub mod NextAnswer
-- what stands before a line that is found
pub mod WholeLines
-- answers that are found right are those of their specification
pub mod RightIsTrue
-- bodies at the front of a text
pub mod BodyEnds
-- refutations at the front of a text
pub mod RefutationEnds
-- what is read of a text in one way only
pub mod OnlyOnce
-- words of answers
pub mod PlainAnswers
-- bodies of answers are read in one way only
pub mod OneBody
-- and answers
pub mod OneBlock
-- and documents
pub mod OneDocument
-- one thing comes of answers
pub mod OneVerdict
-- one thing at most is found of a text
pub mod OneFinding
-- fronts of texts
pub mod TextFronts
-- what is asked of lines is decided
pub mod DecidedLines
-- a text begins with a body, or has a fault
pub mod SomeBody
-- a text begins with an answer, or has a fault
pub mod SomeAnswer
-- a text is a document, or has a fault
pub mod SomeDocument
-- something comes of each answer
pub mod SomeStanding
-- something comes of all answers
pub mod SomeVerdict
-- of each text something is found
pub mod SomeFinding
-- a text is read, or refused
pub mod OneReading
-- the first line that is a title stands behind the specification
pub mod TitleFirst
-- sets that agree on the requirements among the items
pub mod AlikeRequirements
-- answers whose conflicts name requirements alone
pub mod CleanedCores
-- such answers may stand in a document
pub mod StandingAnswers
-- the answers of a specification are found right
pub mod AnswersAreRight
