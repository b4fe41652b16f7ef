-- sets from which runs lead into sets
pub mod RunsIntoSets
-- the edges of an action, one after the other
pub mod EdgeSets
-- what the evaluator's parts compute
pub mod Evaluation
