-- Paths of a structure: lassos along the edges by the action `_`.
--
-- The operators X, E and A go along the edges by the action `_` alone. A path is a lasso of them: a list of states with a
-- loop start (`ml_lists/specs/Lasso`), which stands for the endless path that goes through the list and then round its
-- loop for ever. An entry of the list is a place; the same state may stand at many places.
--
--   has_step m s t      == an edge by the action `_` leads from s to t
--   IsPath m l          == each step of l is such an edge, the one from the last place to the loop start too
--   IsPathFrom m s l    == l is a path of m whose first state is s
--   places l            == how many places a lasso has
--   IsTotal m           == each state of m has an edge by the action `_`
use Rattle.std.specs.Prelude.{ℕ, ◌==◌, ◌≡◌, ◌<◌, Bool, true, ◌&&◌, length, codes}
use Rattle.std.specs.List.{list_any}
use Rattle.std.specs.Str.{bytes_eq}
use Rattle.ml_lists.specs.Lasso.{Lasso, IsLassoOf, entry}
use Rattle.ml_base.specs.Structure.{Structure}

abbrev pub has_step : Structure → ℕ → ℕ → Bool
has_step m s t = list_any (λ e. (e.source == s) && bytes_eq e.action (codes "_") && (e.target == t)) m.edges

abbrev pub IsPath : Structure → Lasso → Type 0
IsPath m l = IsLassoOf (λ s t. has_step m s t ≡ true) l

pub record IsPathFrom (m : Structure) (s : ℕ) (l : Lasso) : Type 0 where
  pub is_path : IsPath m l
  pub starts_at : entry l 0 ≡ s

abbrev pub places : Lasso → ℕ
places l = length l.entries

abbrev pub IsTotal : Structure → Type 0
IsTotal m = (s : ℕ) → s < m.states → (t : ℕ) × (has_step m s t ≡ true)
