-- a text with an LF behind it
pub mod LastLines
