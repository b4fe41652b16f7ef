-- the sizes of decision games
pub mod Sizes
