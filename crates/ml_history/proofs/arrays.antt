-- Lemmas: histories as flat arrays, and the step on them.

-- stacks laid out in flat arrays
pub mod StackLayout
-- names that get their numbers part by part
pub mod NumberedParts
-- the names in use in a line, worst offer first
pub mod NameLine
-- the line of names is the order of offers, backwards
pub mod OrderOfNames
-- the best offers, one at a time
pub mod BestOffers
-- flags that are set along stacks, from their ends on
pub mod FlagsAlongStacks
-- the names of offered stacks, and the stacks that are cut
pub mod CutOffers
-- the step on flat arrays, from its parts
pub mod FlatStep
-- lists of items, one item after the other
pub mod ItemByItem
