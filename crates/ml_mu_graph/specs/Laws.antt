-- The game on a formula's graph, and the formula's meaning.
--
--   HoldsWhere g f negated == on each structure, of any number of states, the graph g holds at the states at which the
--                     formula f does, in this sense
--   GraphsAgree    == of each formula whose variables are bound and positive, in its plain sense and negated: its graph
--                     holds where the problem does
use Rattle.std.specs.Prelude.{ℕ, ◌≡◌, ◌<◌, ◌↔◌, Bool, true, []}
use Rattle.ml_base.specs.Structure.{Structure, IsStructure}
use Rattle.ml_graph.specs.CheckingGame.{Holds}
use Rattle.ml_graph.specs.Graph.{Graph}
use Rattle.ml_mu.specs.Formula.{Formula}
use Rattle.ml_mu.specs.Problem.{HoldsAt}
use Rattle.ml_mu.specs.Variables.{is_bound, is_positive}
use Rattle.ml_mu_graph.specs.MuGraph.{IsGraphOf}

abbrev pub HoldsWhere : Graph → Formula → Bool → Type 0
HoldsWhere g f negated =
    (m : Structure) → IsStructure m → (s : ℕ) → s < m.states → Holds g m s ↔ HoldsAt m s f negated

abbrev pub GraphsAgree : Type 0
GraphsAgree =
    (f : Formula) (negated : Bool) (g : Graph)
    → is_bound [] f ≡ true
    → is_positive f ≡ true
    → IsGraphOf g f negated
    → HoldsWhere g f negated
