-- Breadth-first lists as they grow. Only private contracts cite this.
--
-- Look at the entries of a list one after the other, and put behind it what each leads to, where it is new: then the list
-- is at each moment the breadth-first one of the rows of the entries that were looked at.
--
--   IsBegun start rows xs == xs is the start and what these rows have, each number where it comes first; the rows are
--                            those of the first entries of xs; and each entry but the start stands in the row of an
--                            earlier one
use Rattle.std.specs.Prelude.{ℕ, ◌≡◌, ◌<◌, ◌≤◌, List, ◌∷◌, [], length, get_or}
use Rattle.std.specs.List.{flat_map}
use Rattle.ml_lists.specs.BreadthFirst.{each_once}
use Rattle.ml_lists.specs.Member.{IsMember}

-- what the rows have, with the start
abbrev pub seen : ℕ → List (List ℕ) → List ℕ
seen start rows = start ∷ flat_map (λ row. row) rows

pub record IsBegun (start : ℕ) (rows : List (List ℕ)) (xs : List ℕ) : Type 0 where
  pub few : length rows ≤ length xs
  pub in_order : xs ≡ each_once (seen start rows)
  pub from_earlier : (k : ℕ) → 0 < k → k < length xs → (j : ℕ) × (j < k) × IsMember (get_or xs k 0) (get_or rows j [])
