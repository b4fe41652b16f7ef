-- requirements and a question that can be met together
pub mod Meeting
-- answers as plain values, and what they say
pub mod Replies
-- answers as the program holds them, as plain values
pub mod Answers
-- laws of answers
pub mod Laws
-- what private contracts cite
pub mod private
