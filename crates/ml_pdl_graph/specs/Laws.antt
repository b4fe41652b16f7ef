-- The game on a formula's graph, and the formula's meaning.
--
--   HoldsWhere g f negated == on each structure, of any number of states, the graph g holds at the states at which the
--                     formula f does, in this sense
--   GraphsAgree    == of each formula, in its plain sense and negated: its graph holds where the problem does
use Rattle.std.specs.Prelude.{ℕ, ◌<◌, ◌↔◌, Bool}
use Rattle.ml_base.specs.Structure.{Structure, IsStructure}
use Rattle.ml_graph.specs.CheckingGame.{Holds}
use Rattle.ml_graph.specs.Graph.{Graph}
use Rattle.ml_pdl.specs.Formula.{Formula}
use Rattle.ml_pdl.specs.Problem.{HoldsAt}
use Rattle.ml_pdl_graph.specs.PdlGraph.{IsGraphOf}

abbrev pub HoldsWhere : Graph → Formula → Bool → Type 0
HoldsWhere g f negated =
    (m : Structure) → IsStructure m → (s : ℕ) → s < m.states → Holds g m s ↔ HoldsAt m s f negated

abbrev pub GraphsAgree : Type 0
GraphsAgree =
    (f : Formula) (negated : Bool) (g : Graph)
    → IsGraphOf g f negated
    → HoldsWhere g f negated
