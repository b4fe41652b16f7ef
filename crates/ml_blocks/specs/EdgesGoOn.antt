-- Where the graph of a problem holds, edges by the action `_` never end.
--
--   IsReachedByStep m s t == edges of m by the action `_` lead from the state s to the state t
--   EdgesGoOn             == where the graph of a closure holds, each state that is so reached has an edge by `_`
use Rattle.std.specs.Prelude.{ℕ, ◌≡◌, ◌<◌, true}
use Rattle.ml_base.specs.Structure.{Structure, IsStructure}
use Rattle.ml_graph.specs.CheckingGame.{Holds}
use Rattle.ml_graph.specs.Graph.{Graph}
use Rattle.ml_ctl.specs.Paths.{has_step}
use Rattle.ml_blocks.specs.BlockGraph.{IsGraphAt}
use Rattle.ml_blocks.specs.Places.{Place}

pub data IsReachedByStep (m : Structure) (s : ℕ) : ℕ → Type 0 where
  itself : IsReachedByStep m s s
  along : (t u : ℕ) → IsReachedByStep m s t → has_step m t u ≡ true → IsReachedByStep m s u

abbrev pub EdgesGoOn : Type 0
EdgesGoOn =
    (start : Place) (g : Graph) (m : Structure) (s t : ℕ)
    → IsGraphAt g start
    → IsStructure m
    → s < m.states
    → Holds g m s
    → IsReachedByStep m s t
    → (u : ℕ) × (has_step m t u ≡ true)
