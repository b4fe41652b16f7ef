-- lines of words
pub mod Lines
-- documents read line by line
pub mod Reading
-- where a text is refused by a format
pub mod Faults
-- what private contracts cite
pub mod private
