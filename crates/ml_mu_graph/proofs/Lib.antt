-- the set at which a player wins a binder is a least one
pub mod LeastSets
-- the region below a binder
pub mod FreeVariables
pub mod Regions
pub mod Recurring
-- the body of a binder that is cut open
pub mod CutSituations
-- a formula in a graph, and the induction at everything but binders
pub mod Situations
pub mod Connectives
-- where a graph holds, as a truth value
pub mod Values
-- graphs with a binder cut open
pub mod CutOpen
-- binders cut open, and what lies below an occurrence
pub mod Told
-- the lists of a formula's graph
pub mod NodeLists
-- binders around, entered and left
pub mod Bindings
-- the graph that was made
pub mod Made
-- the induction at binders
pub mod Binding
-- the agreement of game and meaning
pub mod Agreement
-- the lists of a formula make a graph
pub mod InRange
-- the graph that the program makes, with names and priorities that a program holds
pub mod HeldGraph
