-- Lassos: a list of numbers with a loop start.
--
-- A lasso stands for the endless sequence that goes through the list, and then round its loop for ever: from the
-- last entry it goes back to the entry at the loop start. It may meet an entry more than once, before the loop, on
-- it, or both. The list is never empty, since the start is below its length. The closing step is a step like each
-- other: the round is the list with the entry at the start appended once more.
--
--   entry l k          == entry k of the list
--   round l            == the list, and the entry at the start once more
--   next_place l k     == the place after place k: the next one, and after the last one the start
--   unrolled l k       == entry k of the endless sequence that the lasso stands for
--   IsLassoOf R l      == the start is below the length, and each step of the round is a step of R
--   lowest_on_loop f l == the least f of an entry on the loop, so from the start on
use Rattle.std.specs.Prelude.{ℕ, suc, ◌+◌, ◌<◌, List, [], ◌∷◌, ◌++◌, length, get_or, map, drop, cond, ltb}
use Rattle.ml_lists.specs.Lowest.{lowest}
use Rattle.ml_lists.specs.Walk.{walk}

-- a list of numbers with a loop start
pub record Lasso : Type 0 where
  pub entries : List ℕ
  pub start : ℕ

-- entry k of the list; past its end, where nobody asks, 0
abbrev pub entry : Lasso → ℕ → ℕ
entry l k = get_or l.entries k 0

-- the list, and the entry at the start once more
abbrev pub round : Lasso → List ℕ
round l = l.entries ++ entry l l.start ∷ []

-- the place after place k: the next one, and after the last one the start
abbrev pub next_place : Lasso → ℕ → ℕ
next_place l k = cond (ltb (suc k) (length l.entries)) (suc k) l.start

-- entry k of the endless sequence that the lasso stands for
abbrev pub unrolled : Lasso → ℕ → ℕ
unrolled l k = entry l (walk (next_place l) 0 k)

-- the start is below the length, and each step of the round is a step of R
pub record IsLassoOf (R : ℕ → ℕ → Type 0) (l : Lasso) : Type 0 where
  pub starts : l.start < length l.entries
  pub joined : (k : ℕ) → k < length l.entries → R (get_or (round l) k 0) (get_or (round l) (k + 1) 0)

-- the least f of an entry on the loop
abbrev pub lowest_on_loop : (ℕ → ℕ) → Lasso → ℕ
lowest_on_loop f l = lowest (f (entry l l.start)) (map f (drop (suc l.start) l.entries))
