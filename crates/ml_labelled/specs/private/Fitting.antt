-- When edges that were found are those of an automaton.
--
--   prop_of l         == the proposition that the literal names
--   AllFit props rows == each edge leads to a state, under a cube of so many propositions
--   AreEdges props rows == and there are states, not too many
use Rattle.std.specs.Prelude.{ℕ, ◌<◌, ◌^◌, List, [], length, get_or}
use Rattle.ml_lists.specs.Member.{IsMember}
use Rattle.ml_labelled.specs.Labelled.{Edge, IsEdge}
use Rattle.ml_labelled.specs.declared.labelled.Literal.{Literal}

abbrev pub prop_of : Literal → ℕ
prop_of l = l.prop

abbrev pub AllFit : ℕ → List (List Edge) → Type 0
AllFit props rows =
    (p : ℕ) → p < length rows → (e : Edge) → IsMember e (get_or rows p []) → IsEdge (length rows) props e

pub record AreEdges (props : ℕ) (rows : List (List Edge)) : Type 0 where
  pub some_state : 0 < length rows
  pub few_states : length rows < 2 ^ 32
  pub all_fit : AllFit props rows
