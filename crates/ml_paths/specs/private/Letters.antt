-- The letters of the states of a structure, as a word automaton reads them.
--
--   IsLabelled g m keys n s    == the list `keys` has at the place n the numbers of the propositions of g that are true at s
--   AreNumbered g m k keys ns  == so it has for each of the first k states at the place that ns names
--   IsRowOf a keys k row       == the row has the letters of the automaton a for the first k of the keys
--   AreLettersOf a m ns row    == the row has at the place that ns names the letter of each state of m
use Rattle.std.specs.Prelude.{ℕ, ◌≡◌, ◌<◌, List, [], Some, get_or, length, slice_get}
use Rattle.ml_base.specs.Structure.{Structure}
use Rattle.ml_graph.specs.Graph.{Graph}
use Rattle.ml_trace.specs.declared.letters.Transition.{Transition}
use Rattle.ml_word_automaton.specs.Letters.{AreThoseIn, Automaton, HasTransitions}
use Rattle.ml_word_automaton.specs.Words.{Letter}
use Rattle.ml_paths.specs.Paths.{labels_at}

abbrev pub number_of : List ℕ → ℕ → ℕ
number_of numbers s = get_or numbers s 0

pub record IsLabelled (g : Graph) (m : Structure) (keys : List (List ℕ)) (n s : ℕ) : Type 0 where
  pub label : List ℕ
  pub stands : slice_get keys n ≡ Some label
  pub is_label : AreThoseIn g (labels_at m s) label

pub record AreNumbered (g : Graph) (m : Structure) (k : ℕ) (keys : List (List ℕ)) (numbers : List ℕ) : Type 0 where
  pub one_each : length numbers ≡ k
  pub are : (s : ℕ) → s < k → IsLabelled g m keys (number_of numbers s) s

pub record IsRowOf (a : Automaton) (keys : List (List ℕ)) (k : ℕ) (row : List (List Transition)) : Type 0 where
  pub one_each : length row ≡ k
  pub are : (n : ℕ) (label : List ℕ) (l : Letter)
      → n < k
      → slice_get keys n ≡ Some label
      → AreThoseIn a.graph l label
      → HasTransitions a l (get_or row n [])

pub record AreLettersOf (a : Automaton) (m : Structure) (numbers : List ℕ) (row : List (List Transition)) : Type 0 where
  pub one_each : length numbers ≡ m.states
  pub in_row : (s : ℕ) → s < m.states → number_of numbers s < length row
  pub are : (s : ℕ) → s < m.states → HasTransitions a (labels_at m s) (get_or row (number_of numbers s) [])
