-- letters in ascending order
pub mod OrderedLetters
-- each word has a structure in order
pub mod OrderedRuns
-- the labels of the structure of a word are names
pub mod NamedRuns
-- the letters of a word of valuations, one after the other
pub mod WordLetters
-- whoever checks documents confirms those of words
pub mod Confirmed
-- something is found in each text, and one thing at most
pub mod OneFinding
-- what is written of a right outcome is found right
pub mod RightOutcomes
-- what is made in a game of at most n positions has at most n states
pub mod FewStates
