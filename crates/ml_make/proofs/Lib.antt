-- rows that fit, read one behind the other
pub mod Fitted
-- states that are numbered breadth first, as their rows are read
pub mod Numbered
-- answers are right, and some answer is due
pub mod Answered
