-- items one after the other
pub mod Splits
-- where they are
pub mod ItemPlaces
-- lines without comments
pub mod KeptLines
-- words one after the other, and where they are
pub mod WordPlaces
-- lists of words that are read
pub mod WordLists
-- words that are read while what they declare is noted
pub mod WordSteps
-- how long the parts of an item are
pub mod PartSizes
-- formulas and refusals of the texts of items
pub mod TextRefusals
-- propositions that aren't declared
pub mod Undeclared
-- the faults of one item
pub mod ItemFaults
-- items as statements
pub mod NextStatements
-- the faults of a text
pub mod TextFaults
-- statements that mean too large a formula
pub mod LargeFormulas
-- propositions as names
pub mod Propositions
-- formulas with definitions written out
pub mod ReplacedFormulas
-- enumerations as formulas
pub mod Enumerated
-- what these say
pub mod ExactlyOne
-- the items that statements mean
pub mod SpecifiedItems
-- the context behind one item more
pub mod Contexts
-- what one statement more means
pub mod Meanings
-- items as next statements, with the context behind them
pub mod Steps
-- faults of lists as faults of items
pub mod Told
-- items that are read to the end
pub mod ReadItems
-- how many occurrences joined formulas have
pub mod JoinedSizes
-- each text is read in one way, or has a first fault
pub mod Readings
-- each text has one answer
pub mod OneAnswer
-- requirements that are chosen
pub mod ChosenItems
