-- The transitions of letters, by their sources.
--
--   RiseBySource ts        == the sources of the transitions ts don't descend
--   IsLeaving ts q xs      == xs are those of ts that leave q
--   is_to r acc t          == does t lead to r, accepting or not?
--   AreSameLetters row all == each place of `all` has the transitions of that place of the row
use Rattle.std.specs.Prelude.{ℕ, ◌≡◌, ◌↔◌, ◌==◌, ◌&&◌, Bool, not, if◌then◌else◌, List, [], length, get_or}
use Rattle.std.specs.List.Sorted.{IsNonDecreasingBy}
use Rattle.ml_lists.specs.Member.{IsMember}
use Rattle.ml_trace.specs.declared.letters.Transition.{Transition}

abbrev pub RiseBySource : List Transition → Type 0
RiseBySource ts = IsNonDecreasingBy (λ (t : Transition). t.from) ts

abbrev pub IsLeaving : List Transition → ℕ → List Transition → Type 0
IsLeaving ts q xs = (t : Transition) → IsMember t xs ↔ (IsMember t ts × (t.from ≡ q))

abbrev pub is_to : ℕ → Bool → Transition → Bool
is_to to accepting t = if accepting then (t.to == to) && t.accepting else (t.to == to) && not t.accepting

pub record AreSameLetters (row all : List (List Transition)) : Type 0 where
  pub one_length : length all ≡ length row
  pub same : (l : ℕ) (t : Transition) → IsMember t (get_or all l []) ↔ IsMember t (get_or row l [])
