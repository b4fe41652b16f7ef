-- Kripke structures, over which the formulas of all logics are read.
--
-- A structure has the states 0 to n - 1, n any number from 1 on; each state lists the propositions that are true at
-- it; and each edge leads from a state by an action to a state. Propositions and actions are names, so lists of
-- bytes. The same edge may stand twice in the list, and the order of the lists means nothing to any formula.
--
-- A set of states is a list with one flag per state, true at the members. So sets are computed, and every question
-- about one is decided by looking at a flag.
--
--   Structure         == the number of states, the propositions of each state, and the edges
--   IsStructure m     == m has a state, a list of propositions for each state, and its edges join its states
--   lists m s p       == is the proposition p true at the state s?
--   StateSet          == a set of states, as flags
--   is_member set s   == is the state s in the set? (A number that is no state is in none.)
--   states_where m t  == the set of the states of m that pass the test t
--   everywhere m      == all states of m
--   nowhere m         == no state
use Rattle.std.specs.Prelude.{ℕ, ◌<◌, ◌≡◌, Bool, true, false, List, [], length, map, replicate, All, slice_index_or}
use Rattle.std.specs.List.{list_any, range_with_len}
use Rattle.std.specs.Str.{bytes_eq}
use Rattle.ml_base.specs.declared.structure.Edge.{Edge}

pub record Structure : Type 0 where
  pub states : ℕ
  pub labels : List (List (List ℕ))
  pub edges : List Edge

pub record IsStructure (m : Structure) : Type 0 where
  pub has_state : 0 < m.states
  pub labels_states : length m.labels ≡ m.states
  pub joins_states : All (λ e. (e.source < m.states) × (e.target < m.states)) m.edges

-- is the proposition true at the state?
abbrev pub lists : Structure → ℕ → List ℕ → Bool
lists m s p = list_any (λ q. bytes_eq q p) (slice_index_or m.labels s [])

-- a set of states: one flag for each
abbrev pub StateSet : Type 0
StateSet = List Bool

abbrev pub is_member : StateSet → ℕ → Bool
is_member set s = slice_index_or set s false

-- the states that pass a test
abbrev pub states_where : Structure → (ℕ → Bool) → StateSet
states_where m test = map test (range_with_len 0 m.states)

abbrev pub everywhere : Structure → StateSet
everywhere m = replicate m.states true

abbrev pub nowhere : Structure → StateSet
nowhere m = replicate m.states false
