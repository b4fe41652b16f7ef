-- Lemmas: what the definition of the step says of stacks, names and histories.

-- offers along a letter
pub mod Offers
-- the order of offers
pub mod OrderOfOffers
-- what the targets take
pub mod TakenOffers
-- stacks cut after a name
pub mod CutStacks
-- names of items: which stand, which end a stack, how many are in use
pub mod NamesInUse
-- stacks that are offered
pub mod OfferedStacks
-- the mark, by the least red and the least green name
pub mod StepMark
-- one step: where items behind it come from
pub mod OneStep
-- the step of a stack along a transition
pub mod StackStep
-- one step satisfies the condition on names
pub mod StepNames
-- stacks renumbered in their order
pub mod RenumberedStacks
-- a step leads from a history to a history
pub mod StepKeeps
-- worked steps, computed from the definition
pub mod WorkedSteps
-- letters stand for sets
pub mod LetterSets
-- which states have a stack behind a step
pub mod SteppedStates
-- small histories: how many names there can be in one
pub mod SmallHistories
