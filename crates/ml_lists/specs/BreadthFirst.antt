-- Lists in breadth-first order.
--
-- Each entry of a list leads to other numbers, in an order: its row. The list is the breadth-first one from a start if it
-- is the start and then what the rows have, row by row, each number where it comes first, and if each entry but the
-- start stands in the row of an earlier one. (Without the last, an entry could stand there because of itself alone.)
--
--   each_once xs                 == the entries of xs, each where it stands first
--   IsBreadthFirst start rows xs == xs is the breadth-first list from the start, and its entries have these rows
use Rattle.std.specs.Prelude.{ℕ, ◌≡◌, ◌<◌, ◌==◌, not, List, [], ◌∷◌, filter, length, get_or}
use Rattle.std.specs.List.{flat_map}
use Rattle.ml_lists.specs.Member.{IsMember}

abbrev pub each_once : List ℕ → List ℕ
each_once [] = []
each_once (x ∷ xs) = x ∷ filter (λ y. not (y == x)) (each_once xs)

pub record IsBreadthFirst (start : ℕ) (rows : List (List ℕ)) (xs : List ℕ) : Type 0 where
  pub a_row_each : length rows ≡ length xs
  pub in_order : xs ≡ each_once (start ∷ flat_map (λ row. row) rows)
  pub from_earlier : (k : ℕ) → 0 < k → k < length xs → (j : ℕ) × (j < k) × IsMember (get_or xs k 0) (get_or rows j [])
