-- the numbers of the exit statuses
pub mod Codes
-- the words of the command line, in a table of commands
pub mod Words
-- what stands behind the first word of a command
pub mod Verbs
-- the numbers of commands that words ask for
pub mod UsualNumbers
-- what an answer of one line says
pub mod Said
-- the limits on inputs, and what is said of what is checked or refused
pub mod Statuses
-- what texts stand for
pub mod Texts
-- documents with a structure made smaller
pub mod Quotients
-- parity games that are solved
pub mod Games
-- solutions of parity games that are checked
pub mod CheckedGames
-- automata that are made deterministic
pub mod Automata
-- automata of formulas
pub mod Translations
-- paths of structures
pub mod Paths
-- what `check-answers` answers
pub mod CheckedAnswers
-- what `show` says of what it doesn't show
pub mod ShownDocuments
-- machines and environments that are checked
pub mod CheckedMachines
-- tasks for which a machine or an environment is made
pub mod Tasks
-- files of requirements that are asked about
pub mod Asked
-- what a problem is decided to be
pub mod Decision
-- what is written of the formulas of families
pub mod Bench
-- documents in outputs that are confirmed
pub mod Confirmed
-- what a call of `run` answers and leaves behind
pub mod Run
-- what a call gives back beside its status
pub mod Calls
-- what private contracts cite
pub mod private
-- laws of what is due
pub mod Laws
