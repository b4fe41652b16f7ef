-- what is looked up while a checking game is made, and the vertices made so far
pub mod Making
