-- numbers that look random
pub mod Numbers
