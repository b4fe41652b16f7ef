-- A measure in one flat list of numbers.
--
-- The rows of all vertices have one width and stand one behind the other; a flag tells which vertices have the top. Of a
-- vertex with the top the row means nothing.
--
--   TableRows                      == the width, and the measure
--   row_at wide numbers v          == the row of v
--   entry_of wide numbers tops v   == what v has
--   table_of wide numbers tops     == the measure
--   IsRaised a b m n v r           == r: the entry a of v in m was below b, and n is m with b there; else it wasn't, and n is m
use Rattle.std.specs.Prelude.{ℕ, ◌≡◌, ◌*◌, Bool, true, false, List, length, get_or, map, set, take, drop, Option, Some, None}
use Rattle.std.specs.List.{range_with_len}
use Rattle.ml_progress.specs.Measure.{Measure, IsBelow, measure_at}

-- the width, and the measure
pub record TableRows : Type 0 where
  pub wide : ℕ
  pub rows : Measure

-- the row of v
abbrev pub row_at : ℕ → List ℕ → ℕ → List ℕ
row_at wide numbers v = take wide (drop (v * wide) numbers)

-- a row, or the top
abbrev pub unless_top : Bool → List ℕ → Option (List ℕ)
unless_top true xs = None
unless_top false xs = Some xs

-- what v has
abbrev pub entry_of : ℕ → List ℕ → List Bool → ℕ → Option (List ℕ)
entry_of wide numbers tops v = unless_top (get_or tops v true) (row_at wide numbers v)

-- the measure
abbrev pub table_of : ℕ → List ℕ → List Bool → TableRows
table_of wide numbers tops =
    record { wide = wide; rows = map (entry_of wide numbers tops) (range_with_len 0 (length tops)) }

-- what v has was below b, and now it is b; or it wasn't, and stays
abbrev pub IsRaised : Option (List ℕ) → Measure → Measure → ℕ → Bool → Type 0
IsRaised b m n v true = IsBelow (measure_at m v) b × (n ≡ set m v b)
IsRaised b m n v false = (¬ (IsBelow (measure_at m v) b)) × (n ≡ m)
