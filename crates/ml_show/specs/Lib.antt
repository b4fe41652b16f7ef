-- texts that end with their last line
pub mod Pages
