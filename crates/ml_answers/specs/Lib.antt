-- texts that are made of parts
pub mod Texts
-- the lines of answers
pub mod Lines
-- which questions are due, and which answers may stand there
pub mod Due
-- documents of answers
pub mod Documents
-- the numbers of the rules of their lines
pub mod RuleNumbers
-- where a text is none
pub mod Rules
-- what is read of one, as plain values
pub mod Stated
-- what checking one finds
pub mod Checked
-- what is true of them
pub mod Laws
-- what only private contracts cite
pub mod private
