-- The deterministic parity automaton of a Büchi automaton whose edges have guards.
--
-- Its states are numbers of histories: of those that the letters of valuations lead to from the start of the Büchi
-- automaton, numbered breadth first, valuations ascending (`ml_determinise`). It begins in 0. Each state has one move for
-- each valuation, to a state and with a priority, and a run is accepted if the lowest priority that it meets again and
-- again is odd. All priorities are below the number `top`.
--
--   Deterministic       == the names of the propositions, the number `top`, and the moves of each state, one for each
--                          valuation
--   IsDeterminised a d  == d is the deterministic automaton of the Büchi automaton a
--   IsValuationWord a w == the letters of the word w are valuations of the propositions of a
--   SameWords           == from the state 0 it accepts the words of valuations that the Büchi automaton accepts
--   OneAutomaton        == a Büchi automaton has one deterministic automaton at most
use Rattle.std.specs.Prelude.{ℕ, ◌≡◌, ◌+◌, ◌*◌, ◌<◌, ◌↔◌, List}
use Rattle.ml_lists.specs.Member.{IsMember}
use Rattle.ml_trace.specs.WordAutomata.{WordLasso, IsWordLasso, IsAcceptedFrom, IsDetAcceptedFrom}
use Rattle.ml_hoa.specs.Automaton.{Automaton, IsAutomaton}
use Rattle.ml_determinise.specs.Numbering.{IsNumbered, automaton_of}
use Rattle.ml_determinise.specs.declared.moves.DetMove.{DetMove}
use Rattle.ml_buchi.specs.Valuations.{Leads, letters_of, valuations}

pub record Deterministic : Type 0 where
  pub props : List (List ℕ)
  pub top : ℕ
  pub moves : List (List DetMove)

-- the neutral priority is 2 * a.states + 2, and all others are lower
pub record IsDeterminised (a : Automaton) (d : Deterministic) : Type 0 where
  pub same_props : d.props ≡ a.props
  pub top_is : d.top ≡ 2 * a.states + 3
  pub numbered : IsNumbered a.states (letters_of a) a.start d.moves

-- ---- laws

abbrev pub IsValuationWord : Automaton → WordLasso ℕ → Type 0
IsValuationWord a w = (v : ℕ) → IsMember v w.word → v < valuations a

abbrev pub SameWords : Type 0
SameWords = (a : Automaton) (d : Deterministic) (w : WordLasso ℕ)
    → IsAutomaton a
    → IsDeterminised a d
    → IsWordLasso w
    → IsValuationWord a w
    → IsAcceptedFrom (Leads a) a.start w ↔ IsDetAcceptedFrom (automaton_of d.moves) 0 w

abbrev pub OneAutomaton : Type 0
OneAutomaton = (a : Automaton) (d e : Deterministic) → IsDeterminised a d → IsDeterminised a e → d ≡ e
