-- What the word automaton of a problem accepts, and that its letters are sets.
--
--   AcceptsWhatSatisfies == the automaton of each problem of LTL, plain or negated, accepts from node 0 exactly the word lassos
--                           that satisfy the problem's formula, or its negation
--   OneGraph, SomeGraph  == a problem has an automaton, up to the lists of names
--   OneSize              == the graph has more than n nodes exactly where more than n are reached
--   HaveSame l k         == the letters l and k have the same propositions
--   LettersAreSets       == then they lead alike
--   TrueStatesAreShared  == a state is True exactly where it is the True that all blocks share
--   LettersLeadToStates  == letters lead from states to states, each of which has one number; node 0 has the number 0
--   SomeLetter           == each list of numbers is that of the propositions in some letter
--   RowsAccept           == by the transitions under the letters of a row, from state 0, exactly those words are accepted that
--                           satisfy the problem's formula, or its negation
--   SomeAutomaton        == each problem of LTL, plain or negated, has a word automaton with its states listed
--   SomeTransitions      == under each letter its transitions are listed
use Rattle.std.specs.Prelude.{ℕ, ◌≡◌, ◌<◌, ◌↔◌, Bool, true, List, length, All}
use Rattle.std.specs.List.{IsDistinct}
use Rattle.std.specs.Str.{bytes_eq}
use Rattle.ml_graph.specs.Graph.{Graph, node_at, size}
use Rattle.ml_graph.specs.declared.node.Node.TheVariants as node
use Rattle.ml_nodes.specs.ClosureGraph as closure
use Rattle.ml_nodes.specs.AlikeNodes.{AreAlike}
use Rattle.ml_trace.specs.declared.letters.Transition.{Transition}
use Rattle.ml_trace.specs.WordAutomata.{WordLasso, IsWordLasso, IsAcceptedFrom}
use Rattle.ml_ctl.specs.Formula.{Formula}
use Rattle.ml_ctl.specs.Sorts.{is_linear}
use Rattle.ml_ltl.specs.Problem.{in_sense}
use Rattle.ml_blocks.specs.Closures.{HasMoreThan}
use Rattle.ml_blocks.specs.Places.{Place, True, forms}
use Rattle.ml_word_automaton.specs.Letters.{Automaton, AreThoseIn, HasItsStates, HasTransitions, HasTransitionsOf, IsAutomatonOf, IsState, leads_by, node_of, word_of}
use Rattle.ml_word_automaton.specs.WordAutomaton.{IsBlockGraph, Leads, start_block}
use Rattle.ml_word_automaton.specs.Words.{Letter, has, SatisfiedBy}

abbrev pub AcceptsWhatSatisfies : Type 0
AcceptsWhatSatisfies =
    (f : Formula) (negated : Bool) (g : Graph) (w : WordLasso Letter)
    → is_linear f ≡ true
    → IsBlockGraph g f negated
    → IsWordLasso w
    → IsAcceptedFrom (Leads g) 0 w ↔ SatisfiedBy w (in_sense negated f)

abbrev pub OneGraph : Type 0
OneGraph = (f : Formula) (negated : Bool) (g h : Graph) → IsBlockGraph g f negated → IsBlockGraph h f negated → AreAlike g h

abbrev pub SomeGraph : Type 0
SomeGraph = (f : Formula) (negated : Bool) → (g : Graph) × IsBlockGraph g f negated

abbrev pub OneSize : Type 0
OneSize =
    (f : Formula) (negated : Bool) (g : Graph) (n : ℕ)
    → IsBlockGraph g f negated
    → HasMoreThan (start_block f negated) n ↔ (n < size g)

abbrev pub HaveSame : Letter → Letter → Type 0
HaveSame l k = (p : List ℕ) → has l p ≡ has k p

abbrev pub LettersAreSets : Type 0
LettersAreSets =
    (g : Graph) (l k : Letter)
    → HaveSame l k
    → (p q : ℕ) (accepting : Bool)
    → Leads g l p q accepting ↔ Leads g k p q accepting

-- ---- the automaton with numbered states

abbrev pub TrueStatesAreShared : Type 0
TrueStatesAreShared =
    (f : Formula) (negated : Bool) (g : Graph) (places : List Place) (n : ℕ)
    → is_linear f ≡ true
    → closure.IsNumberedBy forms g (start_block f negated) places
    → (IsState g n × (node_at g n ≡ node.True)) ↔ closure.IsNumberOf places n True

-- the number of a state, and of no other
pub record HasOneNumber (a : Automaton) (n : ℕ) : Type 0 where
  pub number : ℕ
  pub is_low : number < length a.states
  pub is : node_of a number ≡ n
  pub only : (p : ℕ) → p < length a.states → node_of a p ≡ n → p ≡ number

pub record LeadToStates (a : Automaton) : Type 0 where
  pub has_state : 0 < length a.states
  pub begins : node_of a 0 ≡ 0
  pub lead : (l : Letter) (p q : ℕ) (accepting : Bool)
      → p < length a.states
      → Leads a.graph l (node_of a p) q accepting
      → HasOneNumber a q

abbrev pub LettersLeadToStates : Type 0
LettersLeadToStates = (a : Automaton) → HasItsStates a → LeadToStates a

abbrev pub SomeLetter : Type 0
SomeLetter =
    (g : Graph) (present : List ℕ) → IsDistinct bytes_eq g.props → (l : Letter) × AreThoseIn g l present

abbrev pub RowsAccept : Type 0
RowsAccept =
    (f : Formula) (negated : Bool) (a : Automaton) (letters : List Letter) (row : List (List Transition))
    (w : WordLasso ℕ)
    → is_linear f ≡ true
    → IsAutomatonOf a f negated
    → HasTransitionsOf a letters row
    → IsWordLasso w
    → All (λ i. i < length row) w.word
    → IsAcceptedFrom (leads_by row) 0 w ↔ SatisfiedBy (word_of letters w) (in_sense negated f)

abbrev pub SomeAutomaton : Type 0
SomeAutomaton = (f : Formula) (negated : Bool) → (a : Automaton) × IsAutomatonOf a f negated

abbrev pub SomeTransitions : Type 0
SomeTransitions =
    (f : Formula) (negated : Bool) (a : Automaton) (l : Letter)
    → IsAutomatonOf a f negated
    → (ts : List Transition) × HasTransitions a l ts
