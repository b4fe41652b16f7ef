-- graphs of problems that are small
pub mod Translated
-- what is found in a solved game
pub mod Findings
