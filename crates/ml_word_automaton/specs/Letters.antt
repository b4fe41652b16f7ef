-- The word automaton of a problem as a value: its graph, its states, and the transitions under a letter by numbers.
--
-- A walk begins at a state and leads to states. The states are node 0, where the automaton begins; the nodes to which a
-- Diamond leads; and True, where a block goes on to it: as the right child of an And, or as a child of an Or. (The left
-- child of an And is a state node, at which no walk ends.) The nodes of the states are listed in ascending order, and a
-- state's number is its place in this list, so node 0 is state 0.
--
-- Under a letter there are the transitions by which it leads between states. Of the letter only those propositions
-- matter that the graph has. A row has a list of transitions for each of finitely many letters: so a word of places in
-- the row stands for a word of letters.
--
--   Automaton                       == a graph, and the nodes of its states
--   GoesOn v n                      == the node v of a block goes on to n
--   IsState g n                     == node n of the graph g is a state
--   HasItsStates a                  == the states of a are listed, ascending
--   IsAutomatonOf a f negated       == a is the automaton of the problem of f, plain or negated
--   node_of a p                     == the node of the state number p
--   IsTransition a letter m         == under the letter, m leads from state to state, by numbers
--   HasTransitions a letter ts      == ts are all transitions under the letter
--   AreThoseIn g letter present     == `present` has the numbers of the propositions of g that are in the letter
--   HasTransitionsOf a letters row  == the row has the transitions under each of these letters
--   word_of letters w               == the word w of places, read as a word of these letters
--   leads_by row                    == how the places of the row lead
use Rattle.std.specs.Prelude.{ℕ, ◌≡◌, ◌⊎◌, ◌<◌, ◌↔◌, Bool, true, List, [], length, map, get_or}
use Rattle.ml_lists.specs.Ascending.{IsAscending}
use Rattle.ml_lists.specs.Member.{IsMember}
use Rattle.ml_graph.specs.Graph.{Graph, node_at, prop_at}
use Rattle.ml_graph.specs.declared.node.Node.{Node}
use Rattle.ml_graph.specs.declared.node.Node.TheVariants as node
use Rattle.ml_trace.specs.declared.letters.Transition.{Transition}
use Rattle.ml_trace.specs.Run.{in_letter}
use Rattle.ml_trace.specs.WordAutomata.{WordLasso}
use Rattle.ml_ctl.specs.Formula.{Formula}
use Rattle.ml_word_automaton.specs.WordAutomaton.{IsBlockGraph, Leads}
use Rattle.ml_word_automaton.specs.Words.{Letter, has}

pub record Automaton : Type 0 where
  pub graph : Graph
  pub states : List ℕ

-- ---- states

-- the node v of a block goes on to node n, at the same place of a word
abbrev pub GoesOn : Node → ℕ → Type 0
GoesOn (node.And l r) n = n ≡ r
GoesOn (node.Or l r) n = (n ≡ l) ⊎ (n ≡ r)
GoesOn _ n = ⊥

pub data IsState (g : Graph) : ℕ → Type 0 where
  -- where the automaton begins
  begins : IsState g 0
  -- where a Diamond leads
  behind : (d a n : ℕ) → node_at g d ≡ node.Diamond a n → IsState g n
  -- True, where a block goes on to it
  is_true : (k n : ℕ) → GoesOn (node_at g k) n → node_at g n ≡ node.True → IsState g n

pub record HasItsStates (a : Automaton) : Type 0 where
  pub ascend : IsAscending a.states
  pub are_states : (n : ℕ) → IsMember n a.states ↔ IsState a.graph n

-- the automaton of the problem of f, plain or negated
pub record IsAutomatonOf (a : Automaton) (f : Formula) (negated : Bool) : Type 0 where
  pub is_graph : IsBlockGraph a.graph f negated
  pub states : HasItsStates a

-- the node of the state number p
abbrev pub node_of : Automaton → ℕ → ℕ
node_of a p = get_or a.states p 0

-- ---- transitions under a letter

-- under the letter m leads from one state to another, by their numbers
pub record IsTransition (a : Automaton) (letter : Letter) (m : Transition) : Type 0 where
  pub from_state : m.from < length a.states
  pub to_state : m.to < length a.states
  pub leads : Leads a.graph letter (node_of a m.from) (node_of a m.to) m.accepting

-- these are all transitions under the letter
abbrev pub HasTransitions : Automaton → Letter → List Transition → Type 0
HasTransitions a letter ts = (m : Transition) → IsMember m ts ↔ IsTransition a letter m

-- the numbers of the graph's propositions that are in the letter are present
abbrev pub AreThoseIn : Graph → Letter → List ℕ → Type 0
AreThoseIn g letter present =
    (p : ℕ) → p < length g.props → IsMember p present ↔ (has letter (prop_at g p) ≡ true)

-- ---- letters in a row

-- the letter at a place of the list; past its end that without propositions
abbrev pub letter_in : List Letter → ℕ → Letter
letter_in letters i = get_or letters i []

-- the row has the transitions under each of these letters
abbrev pub HasTransitionsOf : Automaton → List Letter → List (List Transition) → Type 0
HasTransitionsOf a letters row =
    (i : ℕ) → i < length row → HasTransitions a (letter_in letters i) (get_or row i [])

-- the word of places, read as a word of these letters
abbrev pub word_of : List Letter → WordLasso ℕ → WordLasso Letter
word_of letters w = record { word = map (letter_in letters) w.word; loop_start = w.loop_start }

-- how the places of the row lead
abbrev pub leads_by : List (List Transition) → ℕ → ℕ → ℕ → Bool → Type 0
leads_by row i = in_letter (get_or row i [])
