-- Stacks laid out one behind the other in flat arrays.
--
-- Three lists: the states; for each of them, where its stack starts among all names; and the names of all stacks. A
-- stack ends where the next one starts.
--
--   starts_from n h             == where the stacks of h start, if n names stand before them
--   part names i j              == the names from the place i on, up to the place j
--   read states starts names    == the items that the arrays stand for
--   AreLaidOut s b n h          == the arrays s, b and n are those of the items h
--   IsHeld live h               == what the program's history keeps
--   renamed number h            == the items h with the numbers of their names in place of the names
--   AreParts starts names       == the parts that start there go over all names, and in each the names ascend
--   StaysBelow number n         == where a name below n is its own number, so is each older one
--   IsNumberedPart .. old new   == new is old with their numbers in place of some of the names
use Rattle.std.specs.Prelude.{◌≡◌, ℕ, ◌+◌, ◌-◌, ◌<◌, ◌≤◌, List, [], ◌∷◌, length, slice_index_or, take, drop, map}
use Rattle.ml_trace.specs.Stack.{Item}
use Rattle.ml_history.specs.HistoryOrder.{names_of}
use Rattle.ml_history.specs.HistoryStep.{live}
use Rattle.ml_history.specs.History.{IsSmallHistory}

-- where the stacks start, if n names stand before them
abbrev pub starts_from : ℕ → List (Item ℕ) → List ℕ
starts_from n [] = []
starts_from n (a ∷ as') = n ∷ starts_from (n + length a.stack) as'

-- the names from the place i on, up to the place j
abbrev pub part : List ℕ → ℕ → ℕ → List ℕ
part names i j = take (j - i) (drop i names)

-- where the stack before these starts ends
abbrev pub next_start : List ℕ → List ℕ → ℕ
next_start [] names = length names
next_start (b ∷ bs) names = b

-- the items that the arrays stand for
abbrev pub read : List ℕ → List ℕ → List ℕ → List (Item ℕ)
read [] starts names = []
read (q ∷ qs) [] names = []
read (q ∷ qs) (b ∷ bs) names = record { state = q; stack = part names b (next_start bs names) } ∷ read qs bs names

-- the arrays are those of the items h
pub record AreLaidOut (states starts names : List ℕ) (h : List (Item ℕ)) : Type 0 where
  pub states_are : states ≡ map (λ (a : Item ℕ). a.state) h
  pub starts_are : starts ≡ starts_from 0 h
  pub names_are : names ≡ names_of h

-- what the program's history keeps
pub record IsHeld (used : ℕ) (h : List (Item ℕ)) : Type 0 where
  pub kept : IsSmallHistory h
  pub live_is : used ≡ live h

-- the items with the numbers of their names in place of the names
abbrev pub renamed : (ℕ → ℕ) → List (Item ℕ) → List (Item ℕ)
renamed number h = map (λ (a : Item ℕ). record { state = a.state; stack = map number a.stack }) h

-- the parts that start there go over all names, one behind the other, and in each the names ascend
pub record AreParts (starts names : List ℕ) : Type 0 where
  pub first : slice_index_or starts 0 (length names) ≡ 0
  pub rise : (i : ℕ)
      → i < length starts
      → slice_index_or starts i (length names) ≤ slice_index_or starts (i + 1) (length names)
  pub fit : (i : ℕ) → i < length starts → slice_index_or starts (i + 1) (length names) ≤ length names
  pub ascend : (i j k : ℕ)
      → i < length starts
      → slice_index_or starts i (length names) ≤ j
      → j < k
      → k < slice_index_or starts (i + 1) (length names)
      → slice_index_or names j 0 < slice_index_or names k 0

-- where a name below n is its own number, so is each older one
abbrev pub StaysBelow : (ℕ → ℕ) → ℕ → Type 0
StaysBelow number n = (y z : ℕ) → y < z → z < n → number z ≡ z → number y ≡ y

-- new is old with their numbers in place of the names from the place `start` on, up to the place `end`
pub record IsNumberedPart (number : ℕ → ℕ) (start end : ℕ) (old new : List ℕ) : Type 0 where
  pub count : length new ≡ length old
  pub inside : (k : ℕ) → start ≤ k → k < end → slice_index_or new k 0 ≡ number (slice_index_or old k 0)
  pub before : (k : ℕ) → k < start → slice_index_or new k 0 ≡ slice_index_or old k 0
  pub behind : (k : ℕ) → end ≤ k → slice_index_or new k 0 ≡ slice_index_or old k 0
