-- what is known while a structure is checked
pub mod Checks
