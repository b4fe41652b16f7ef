-- The path from a state, as it is walked along the edges by `_` until a state comes again. Only private contracts cite this.
--
--   Leads m next           == of each state of m, next tells where its only edge by `_` leads
--   IsWalked next s xs at places == xs are the states from s on, the next one is at, and places tells where each state stands
--                             among xs, if it does
--   IsWordOf next s xs start == xs are the states of a path from s, of which the last one is followed by that at start
--   nones places           == how many states have no place yet
--   lasso_from xs start    == the path through xs, and round from there for ever
use Rattle.std.specs.Prelude.{ℕ, suc, ◌≡◌, ◌+◌, ◌<◌, true, List, [], ◌∷◌, Option, Some, None, length, get_or}
use Rattle.ml_base.specs.Structure.{Structure}
use Rattle.ml_ctl.specs.Paths.{has_step}
use Rattle.ml_lists.specs.Lasso.{Lasso}

pub record Leads (m : Structure) (next : List ℕ) : Type 0 where
  pub each_state : length next ≡ m.states
  pub inside : (s : ℕ) → s < m.states → get_or next s 0 < m.states
  pub leads : (s : ℕ) → s < m.states → has_step m s (get_or next s 0) ≡ true

pub record IsWalked (next : List ℕ) (s : ℕ) (xs : List ℕ) (at : ℕ) (places : List (Option ℕ)) : Type 0 where
  pub as_many : length places ≡ length next
  pub inside : at < length next
  pub first : 0 < length xs → get_or xs 0 0 ≡ s
  pub none_yet : length xs ≡ 0 → at ≡ s
  pub all_inside : (i : ℕ) → i < length xs → get_or xs i 0 < length next
  pub steps : (i : ℕ) → i + 1 < length xs → get_or xs (i + 1) 0 ≡ get_or next (get_or xs i 0) 0
  pub last : (i : ℕ) → i + 1 ≡ length xs → at ≡ get_or next (get_or xs i 0) 0
  pub stand : (i : ℕ) → i < length xs → get_or places (get_or xs i 0) None ≡ Some i
  pub found : (t i : ℕ) → get_or places t None ≡ Some i → (i < length xs) × (get_or xs i 0 ≡ t)

-- how many have no place yet
abbrev pub nones : List (Option ℕ) → ℕ
nones [] = 0
nones (None ∷ ps) = suc (nones ps)
nones (Some i ∷ ps) = nones ps

abbrev pub lasso_from : List ℕ → ℕ → Lasso
lasso_from xs start = record { entries = xs; start = start }

-- the states and the start are those of a path from s, of which no two places have one state
pub record IsWordOf (next : List ℕ) (s : ℕ) (xs : List ℕ) (start : ℕ) : Type 0 where
  pub start_inside : start < length xs
  pub first : get_or xs 0 0 ≡ s
  pub all_inside : (i : ℕ) → i < length xs → get_or xs i 0 < length next
  pub steps : (i : ℕ) → i + 1 < length xs → get_or xs (i + 1) 0 ≡ get_or next (get_or xs i 0) 0
  pub closes : (i : ℕ) → i + 1 ≡ length xs → get_or xs start 0 ≡ get_or next (get_or xs i 0) 0
  pub differ : (i j : ℕ) → i < length xs → j < length xs → get_or xs i 0 ≡ get_or xs j 0 → i ≡ j
