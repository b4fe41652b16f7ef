-- right claims of a solution solve the game
pub mod RightSolves
