-- what is known while an answer is sought
pub mod Steps
