-- How a lasso is made shorter.
--
--   Repeats xs d           == in xs each entry is the one that stands d places before it
--   IsLeastPeriod xs d     == xs is made of its first d entries, over and over, and of no fewer
--   IsPeriodFrom c s p     == from place s on, the sequence c takes the same value p places later
--   HasLeastPeriod l       == the loop of l isn't made of a shorter one, over and over
--   BeginsEarly l          == the entry before the loop isn't the last one of the loop
--   IsLoopCut k l          == k is l with the shortest such loop
--   IsRolled k l           == k is l, or l with a loop as long that begins earlier
--   IsRolledBack k l       == and it begins as early as it can
--   IsShortened k l        == k is the shortest lasso for the endless sequence of l
use Rattle.std.specs.Prelude.{ℕ, ◌≡◌, ◌+◌, ◌-◌, ◌<◌, ◌≤◌, ◌%◌, List, length, get_or}
use Rattle.ml_lists.specs.Lasso.{Lasso, entry, unrolled}
use Rattle.ml_paths.specs.Shortest.{UnrollAlike, IsShortest}

abbrev pub Repeats : List ℕ → ℕ → Type 0
Repeats xs d = (k : ℕ) → k + d < length xs → get_or xs (k + d) 0 ≡ get_or xs k 0

pub record IsLeastPeriod (xs : List ℕ) (d : ℕ) : Type 0 where
  pub some : 0 < d
  pub divides : length xs % d ≡ 0
  pub repeats : Repeats xs d
  pub least : (e : ℕ) → 0 < e → length xs % e ≡ 0 → Repeats xs e → d ≤ e

abbrev pub IsPeriodFrom : (ℕ → ℕ) → ℕ → ℕ → Type 0
IsPeriodFrom c s p = (k : ℕ) → s ≤ k → c (k + p) ≡ c k

abbrev pub HasLeastPeriod : Lasso → Type 0
HasLeastPeriod l = (e : ℕ) → 0 < e → (length l.entries - l.start) % e ≡ 0 → IsPeriodFrom (unrolled l) l.start e
    → length l.entries - l.start ≤ e

abbrev pub BeginsEarly : Lasso → Type 0
BeginsEarly l = 0 < l.start → ¬ (entry l (l.start - 1) ≡ entry l (length l.entries - 1))

pub record IsLoopCut (k l : Lasso) : Type 0 where
  pub starts : k.start < length k.entries
  pub alike : UnrollAlike k l
  pub least : HasLeastPeriod k

pub record IsRolled (k l : Lasso) : Type 0 where
  pub starts : k.start < length k.entries
  pub alike : UnrollAlike k l
  pub earlier : k.start ≤ l.start
  pub one_loop : length k.entries - k.start ≡ length l.entries - l.start

pub record IsRolledBack (k l : Lasso) : Type 0 where
  pub is_rolled : IsRolled k l
  pub early : BeginsEarly k

pub record IsShortened (k l : Lasso) : Type 0 where
  pub starts : k.start < length k.entries
  pub alike : UnrollAlike k l
  pub shortest : IsShortest k
