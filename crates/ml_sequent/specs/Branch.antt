-- Branches of a decision: one sequent, and its spreads under more and more sides.
--
-- A branch chooses sides one after the other, and takes them back in the reverse order. It is seen as the spread that the
-- sequent has now, with those that it had before each choice.
--
--   BranchList  == a graph, a sequent, its spread, and the spreads before, the last one first
--   undone b    == the branch b with its last choice taken back, if one was made
use Rattle.std.specs.Prelude.{ℕ, List, [], ◌∷◌}
use Rattle.ml_graph.specs.Graph.{Graph}
use Rattle.ml_sequent.specs.Spread.{SpreadList}

-- a sequent with its spread, and those before
pub record BranchList : Type 0 where
  pub graph : Graph
  pub sequent : List ℕ
  pub spread : SpreadList
  pub before : List SpreadList

-- with these spreads in place of the spread and those before
abbrev pub undone_to : BranchList → List SpreadList → BranchList
undone_to b [] = b
undone_to b (sp ∷ before) = record { graph = b.graph; sequent = b.sequent; spread = sp; before = before }

-- the last choice is taken back
abbrev pub undone : BranchList → BranchList
undone b = undone_to b b.before
