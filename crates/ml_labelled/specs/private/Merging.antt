-- States with the same edges.
--
--   IsAlike rows p q   == q is a state with the edges of the state p
--   AreAlike n rows ts == ts has such a one of each of the first n states
use Rattle.std.specs.Prelude.{ℕ, ◌≡◌, ◌<◌, List, [], length, get_or}
use Rattle.ml_labelled.specs.Labelled.{Edge}

pub record IsAlike (rows : List (List Edge)) (p q : ℕ) : Type 0 where
  pub is_state : q < length rows
  pub same : get_or rows q [] ≡ get_or rows p []

pub record AreAlike (n : ℕ) (rows : List (List Edge)) (targets : List ℕ) : Type 0 where
  pub as_long : length targets ≡ n
  pub alike : (p : ℕ) → p < n → IsAlike rows p (get_or targets p 0)
