-- what is known while lists of words are read
pub mod Lists
-- what is known while items are read
pub mod Stages
-- how large joined formulas are
pub mod Sizes
