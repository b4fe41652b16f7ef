-- numbers that hold others, as digits of a base
pub mod Packs
-- lists with a key each, ascending by these
pub mod KeyedLists
-- sets and choices by their digits
pub mod SetCodes
-- histories by parents of names and last names of states
pub mod HistoryCodes
-- the code of a position, and the law
pub mod PositionCodes
