-- a text that begins with lines that were read
pub mod Fronts
