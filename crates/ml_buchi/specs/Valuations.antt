-- Valuations: the letters of an automaton whose edges have guards.
--
-- A valuation says of each proposition whether it is true. It is a number below 2 to the number of propositions: bit n of it
-- says so of the proposition n. An edge may be taken under it if its guard is true. Such an automaton reads valuations, so
-- its letters are the sets of transitions that may be taken under each of them.
--
--   is_true v n          == the proposition n is true
--   holds v g            == the guard g is true
--   may_take v e         == so the edge e may be taken
--   Leads a v s t b      == some edge from s to t, accepting or not as b says, may be taken
--   transition_of e      == the transition of an edge, without its guard
--   letter_of a v        == the transitions of the edges that may be taken
--   valuations a         == how many valuations there are
--   letters_of a         == the letters of all valuations, in order
--   SameLetter l m       == the letters stand for the same set of transitions
--   SameLetters row made == so do the letters of two rows, one by one
--   LettersLead          == the letter of a valuation leads as the edges do
--   LettersStay          == all ends of transitions are below the number of states
use Rattle.std.specs.Prelude.{ℕ, ◌≡◌, ◌==◌, ◌&&◌, ◌||◌, ◌^◌, ◌<◌, ◌↔◌, not, Bool, true, List, [], ◌∷◌, length, map, filter}
use Rattle.std.specs.Int.{bit_at}
use Rattle.std.specs.List.{range_with_len}
use Rattle.ml_lists.specs.Member.{IsMember}
use Rattle.ml_lists.specs.Within.{Within}
use Rattle.ml_trace.specs.declared.letters.Transition.{Transition}
use Rattle.ml_determinise.specs.Histories.{StaysBelow, leads_in}
use Rattle.ml_hoa.specs.Automaton.{Guard, Const, Ap, Not, And, Or, Edge, Automaton, IsAutomaton}

-- ---- guards

abbrev pub is_true : ℕ → ℕ → Bool
is_true v n = bit_at v n == 1

abbrev pub holds : ℕ → Guard → Bool
holds v (Const b) = b
holds v (Ap n) = is_true v n
holds v (Not g) = not (holds v g)
holds v (And g h) = holds v g && holds v h
holds v (Or g h) = holds v g || holds v h

-- ---- edges

abbrev pub may_take : ℕ → Edge → Bool
may_take v e = holds v e.guard

-- some edge from s to t may be taken
pub record Leads (a : Automaton) (v s t : ℕ) (accepting : Bool) : Type 0 where
  pub edge : Edge
  pub is_edge : IsMember edge a.edges
  pub may_be_taken : may_take v edge ≡ true
  pub from_is : edge.from ≡ s
  pub to_is : edge.to ≡ t
  pub accepting_is : edge.accepting ≡ accepting

-- ---- letters

abbrev pub transition_of : Edge → Transition
transition_of e = record { from = e.from; to = e.to; accepting = e.accepting }

abbrev pub letter_of : Automaton → ℕ → List Transition
letter_of a v = map transition_of (filter (may_take v) a.edges)

abbrev pub valuations : Automaton → ℕ
valuations a = 2 ^ length a.props

abbrev pub letters_of : Automaton → List (List Transition)
letters_of a = map (letter_of a) (range_with_len 0 (valuations a))

-- the same set of transitions
pub record SameLetter (l m : List Transition) : Type 0 where
  pub to : Within l m
  pub back : Within m l

abbrev pub SameLetters : List (List Transition) → List (List Transition) → Type 0
SameLetters [] [] = Unit {0}
SameLetters [] (m ∷ made) = ⊥
SameLetters (l ∷ row) [] = ⊥
SameLetters (l ∷ row) (m ∷ made) = SameLetter l m × SameLetters row made

-- ---- laws

abbrev pub LettersLead : Type 0
LettersLead = (a : Automaton) (v s t : ℕ) (accepting : Bool)
    → v < valuations a
    → leads_in (letters_of a) v s t accepting ↔ Leads a v s t accepting

abbrev pub LettersStay : Type 0
LettersStay = (a : Automaton) → IsAutomaton a → StaysBelow a.states (letters_of a)
