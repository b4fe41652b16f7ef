-- The Büchi automaton of a formula of LTL, over the sets of its propositions.
--
-- It is made of the formula's word automaton, the plain one: for each place at which a transition ends there is an edge under
-- the place's cube. What is said of it here is what it accepts and how large it is; which of the automata that accept the same
-- words it is, is left open.
--
--   props_of f              == the propositions of f, each once, in the order of the text
--   AcceptsWords a f        == the automaton a accepts exactly the word lassos that satisfy f
--   IsTranslated f limit a  == a is an automaton of f, which has a word automaton within the limits
--   IsLarge f               == the word automaton of f has too many nodes
--   HasTooManyPlaces f limit == the word automaton of f isn't too large, and has more places than the limit
use Rattle.std.specs.Prelude.{ℕ, ◌≡◌, ◌≤◌, ◌↔◌, false, List, [], length}
use Rattle.ml_graph.specs.Graph.{size}
use Rattle.ml_trace.specs.WordAutomata.{WordLasso, IsWordLasso}
use Rattle.ml_blocks.specs.Closures.{HasMoreThan}
use Rattle.ml_ctl.specs.Formula.{Formula}
use Rattle.ml_nodes.specs.PathNames.{props_onto}
use Rattle.ml_labelled.specs.Labelled as labelled
use Rattle.ml_labelled.specs.Labelled.{Accepts, AreReached, IsLabelled, Letter}
use Rattle.ml_word_automaton.specs.Letters as word
use Rattle.ml_word_automaton.specs.Letters.{IsAutomatonOf}
use Rattle.ml_word_automaton.specs.WordAutomaton.{start_block}
use Rattle.ml_word_automaton.specs.Words.{SatisfiedBy}
use Rattle.ml_translate.specs.Places.{HasMorePlaces}
use Rattle.ml_translate.specs.declared.limits.TheConstants.{MOST_NODES}

abbrev pub most_nodes : ℕ
most_nodes = MOST_NODES

abbrev pub props_of : Formula → List (List ℕ)
props_of f = props_onto f []

abbrev pub IsLarge : Formula → Type 0
IsLarge f = HasMoreThan (start_block f false) most_nodes

abbrev pub AcceptsWords : labelled.Automaton → Formula → Type 0
AcceptsWords a f = (w : WordLasso Letter) → IsWordLasso w → Accepts a w ↔ SatisfiedBy w f

-- the word automaton of f, which isn't too large
pub record IsWordAutomaton (f : Formula) (b : word.Automaton) : Type 0 where
  pub is_of : IsAutomatonOf b f false
  pub fits : size b.graph ≤ most_nodes

pub record IsTranslated (f : Formula) (limit : ℕ) (a : labelled.Automaton) : Type 0 where
  pub is_labelled : IsLabelled a
  pub props : a.props ≡ props_of f
  pub accepts : AcceptsWords a f
  pub are_reached : AreReached a
  pub automaton : word.Automaton
  pub is_automaton : IsWordAutomaton f automaton
  pub few_states : length a.edges ≤ length automaton.states
  pub few_places : ¬ (HasMorePlaces automaton (props_of f) limit)

pub record HasTooManyPlaces (f : Formula) (limit : ℕ) : Type 0 where
  pub automaton : word.Automaton
  pub is_automaton : IsWordAutomaton f automaton
  pub many_places : HasMorePlaces automaton (props_of f) limit
