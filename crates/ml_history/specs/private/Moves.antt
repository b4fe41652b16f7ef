-- The transitions of a letter, grouped by their sources.
--
--   RiseBySource ts   == the sources of the transitions ts do not descend
--   ends acc ts       == the targets of the transitions ts, of accepting ones or of others
use Rattle.std.specs.Prelude.{ℕ, Bool, not, if◌then◌else◌, List, map, filter}
use Rattle.std.specs.List.Sorted.{IsNonDecreasingBy}
use Rattle.ml_trace.specs.declared.letters.Transition.{Transition}

-- the sources do not descend
abbrev pub RiseBySource : List Transition → Type 0
RiseBySource ts = IsNonDecreasingBy (λ (t : Transition). t.from) ts

-- the transition accepts, or does not
abbrev pub is_of : Bool → Transition → Bool
is_of accepting t = if accepting then t.accepting else not t.accepting

-- the targets, of accepting transitions or of others
abbrev pub ends : Bool → List Transition → List ℕ
ends accepting ts = map (λ (t : Transition). t.to) (filter (is_of accepting) ts)
