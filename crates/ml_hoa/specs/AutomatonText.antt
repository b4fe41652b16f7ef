-- The automaton that a text stands for, its limits, and the numbers in it that are out of range.
--
-- `t` and `f` are the constants, a number in a label is a proposition; `&` and `|` group to the left. With `Acceptance: 0 t`
-- every edge accepts and there is no set; with `Acceptance: 1 Inf(0)` there is the set 0, and an edge accepts if it or its
-- state is in it.
--
--   joined op g h          == g and h under the operator, or h where there is no g
--   guard_with f g l       == the guard of a label, behind the operands g before it, where f gives the propositions
--   edges_of d             == the edges of a draft
--   automaton_of d         == the automaton of a draft
--   operators_in l         == how many operators a label has
--   most_inside l          == how many parentheses are open at once in it
--   IsSmall d              == the draft keeps the limits
--   past k n               == the place of the number n, where it is not below k
--   faults d               == the places of all numbers out of range, in the order of the text: a start, a state or a target
--                             that is not below the states, a proposition not below their number, a set not below the
--                             number of sets, a state that stood before
--   StandsFor text d       == the tokens of the text are those of the draft, which keeps the limits
use Rattle.std.specs.Prelude.{ℕ, ◌+◌, ◌≤◌, ◌==◌, ◌||◌, Bool, true, nat_eq, nat_le, max, List, [], ◌∷◌, ◌++◌, length, map, All, Option, Some, None, if◌then◌else◌}
use Rattle.std.specs.List.{flat_map, list_any}
use Rattle.ml_lines.specs.Reading.{value}
use Rattle.ml_hoa.specs.declared.limits.TheConstants.{MOST_OPEN}
use Rattle.ml_hoa.specs.declared.reader.Acceptance.{Acceptance}
use Rattle.ml_hoa.specs.declared.reader.Acceptance.TheVariants as acceptance
use Rattle.ml_hoa.specs.Automaton as automaton
use Rattle.ml_hoa.specs.Automaton.{Guard, Edge, Automaton, most_states, most_props, most_edges, most_operators}
use Rattle.ml_hoa.specs.Tokens.{tokens, signs_of}
use Rattle.ml_hoa.specs.Grammar.{Numeral, Level, Label, Const, Ap, Not, Inside, Last, And, Least, Or, EdgeText, StateText, Heads, Draft, IsText}

abbrev pub number_of : Numeral → ℕ
number_of n = value n.digits

-- ---- guards

abbrev pub joined : (Guard → Guard → Guard) → Option Guard → Guard → Guard
joined op None h = h
joined op (Some g) h = op g h

abbrev pub guard_with : (Numeral → ℕ) → {l : Level} → Option Guard → Label l → Guard
guard_with f before (Const b) = automaton.Const b
guard_with f before (Ap n) = automaton.Ap (f n)
guard_with f before (Not l) = automaton.Not (guard_with f None l)
guard_with f before (Inside l) = guard_with f None l
guard_with f before (Last l) = joined automaton.And before (guard_with f None l)
guard_with f before (And l c) = guard_with f (Some (joined automaton.And before (guard_with f None l))) c
guard_with f before (Least c) = joined automaton.Or before (guard_with f None c)
guard_with f before (Or c d) = guard_with f (Some (joined automaton.Or before (guard_with f None c))) d

-- ---- edges

abbrev pub members : Option (List Numeral) → List Numeral
members None = []
members (Some ns) = ns

abbrev pub is_zero : Numeral → Bool
is_zero n = number_of n == 0

abbrev pub has_zero : Option (List Numeral) → Bool
has_zero ns = list_any is_zero (members ns)

abbrev pub accepts : Acceptance → Bool → Bool
accepts acceptance.Every in_set = true
accepts acceptance.Marked in_set = in_set

abbrev pub edge_of : Heads → StateText → EdgeText → Edge
edge_of h s e = record {
  from = number_of s.id;
  guard = guard_with number_of None e.label;
  to = number_of e.to;
  accepting = accepts h.acceptance (has_zero s.sets || has_zero e.sets);
}

abbrev pub edges_in : Heads → StateText → List Edge
edges_in h s = map (edge_of h s) s.edges

abbrev pub automaton_of : Draft → Automaton
automaton_of d = record {
  states = number_of d.heads.states;
  start = number_of d.heads.start;
  props = d.heads.props;
  edges = flat_map (edges_in d.heads) d.states;
}

-- ---- limits

abbrev pub most_open : ℕ
most_open = MOST_OPEN

abbrev pub operators_in : {l : Level} → Label l → ℕ
operators_in (Const b) = 0
operators_in (Ap n) = 0
operators_in (Not l) = operators_in l + 1
operators_in (Inside l) = operators_in l
operators_in (Last l) = operators_in l
operators_in (And l c) = operators_in l + operators_in c + 1
operators_in (Least c) = operators_in c
operators_in (Or c d) = operators_in c + operators_in d + 1

abbrev pub most_inside : {l : Level} → Label l → ℕ
most_inside (Const b) = 0
most_inside (Ap n) = 0
most_inside (Not l) = most_inside l
most_inside (Inside l) = most_inside l + 1
most_inside (Last l) = most_inside l
most_inside (And l c) = max (most_inside l) (most_inside c)
most_inside (Least c) = most_inside c
most_inside (Or c d) = max (most_inside c) (most_inside d)

abbrev pub all_edges : Draft → List EdgeText
all_edges d = flat_map (λ s. s.edges) d.states

pub record IsSmallLabel (e : EdgeText) : Type 0 where
  pub operators : operators_in e.label ≤ most_operators
  pub open_at_once : most_inside e.label ≤ most_open

pub record IsSmall (d : Draft) : Type 0 where
  pub few_states : number_of d.heads.states ≤ most_states
  pub few_props : length d.heads.props ≤ most_props
  pub few_edges : length (all_edges d) ≤ most_edges
  pub labels : All IsSmallLabel (all_edges d)

-- ---- ranges

abbrev pub sets_of : Acceptance → ℕ
sets_of acceptance.Every = 0
sets_of acceptance.Marked = 1

abbrev pub past : ℕ → Numeral → List ℕ
past bound n = if nat_le bound (number_of n) then n.at ∷ [] else []

abbrev pub label_faults : ℕ → {l : Level} → Label l → List ℕ
label_faults props (Const b) = []
label_faults props (Ap n) = past props n
label_faults props (Not l) = label_faults props l
label_faults props (Inside l) = label_faults props l
label_faults props (Last l) = label_faults props l
label_faults props (And l c) = label_faults props l ++ label_faults props c
label_faults props (Least c) = label_faults props c
label_faults props (Or c d) = label_faults props c ++ label_faults props d

abbrev pub sets_faults : Heads → Option (List Numeral) → List ℕ
sets_faults h ns = flat_map (past (sets_of h.acceptance)) (members ns)

abbrev pub edge_faults : Heads → EdgeText → List ℕ
edge_faults h e =
    label_faults (length h.props) e.label ++ (past (number_of h.states) e.to ++ sets_faults h e.sets)

-- behind the states before it
abbrev pub id_faults : Heads → List StateText → Numeral → List ℕ
id_faults h before n =
    if nat_le (number_of h.states) (number_of n) || list_any (λ s. nat_eq (number_of n) (number_of s.id)) before
    then n.at ∷ [] else []

abbrev pub state_faults : Heads → List StateText → StateText → List ℕ
state_faults h before s =
    id_faults h before s.id ++ (sets_faults h s.sets ++ flat_map (edge_faults h) s.edges)

abbrev pub body_faults : Heads → List StateText → List StateText → List ℕ
body_faults h before [] = []
body_faults h before (s ∷ states) = state_faults h before s ++ body_faults h (before ++ s ∷ []) states

abbrev pub faults : Draft → List ℕ
faults d = past (number_of d.heads.states) d.heads.start ++ body_faults d.heads [] d.states

pub record StandsFor (text : List ℕ) (d : Draft) : Type 0 where
  pub is_text : IsText (signs_of (tokens text)) d
  pub is_small : IsSmall d
