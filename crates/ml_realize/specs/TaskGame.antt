-- The game of a task, and what is found.
--
-- The word automaton of the negated formula reads the letters of the valuations. Its histories, with the priorities of their
-- steps, are a deterministic parity automaton, and on this the environment and the machine play: the environment chooses a set
-- of inputs, the machine a set of outputs. The automaton, its histories and the game have names and numbers of their own; how
-- many positions are reached depends on none of them.
--
--   most_nodes              == how many nodes the graph of the word automaton has at most
--   valuations t            == how many valuations of the names of t there are
--   IsRowOf ns a row        == the row has the transitions of the automaton a under the letter of each valuation of ns
--   Reading t               == a word automaton of the negation of the formula of t, with such a row
--   IsLarge t               == its graph has more than the most nodes
--   HasMore r n             == the game has more than n positions
--   PassesLimit t n         == the graph has not too many nodes, and the game has more than n positions
--   IsFound t n r           == the outcome r is made for the histories, in a game of at most n positions
use Rattle.std.specs.Prelude.{ℕ, ◌≡◌, ◌^◌, ◌<◌, ◌≤◌, true, List, length, get_or, []}
use Rattle.ml_blocks.specs.Closures.{HasMoreThan}
use Rattle.ml_determinise.specs.Histories.{histories_of, neutral}
use Rattle.ml_determinise.specs.Numbering.{IsNumbered}
use Rattle.ml_determinise.specs.declared.moves.DetMove.{DetMove}
use Rattle.ml_graph.specs.Graph.{size}
use Rattle.ml_history.specs.HistoryStep.{start}
use Rattle.ml_synthesis.specs.Game.{HasMorePositions}
use Rattle.ml_synthesis.specs.Synthesis.{IsOutcome}
use Rattle.ml_synthesis.specs.declared.outcome.Outcome.{Outcome}
use Rattle.ml_task.specs.NameSets.{members}
use Rattle.ml_task.specs.Task.{Task, names_of}
use Rattle.ml_trace.specs.declared.letters.Transition.{Transition}
use Rattle.ml_word_automaton.specs.Letters.{Automaton, HasTransitions, IsAutomatonOf}
use Rattle.ml_word_automaton.specs.WordAutomaton.{start_block}
use Rattle.ml_realize.specs.Realizing.{inputs_of, outputs_of}
use Rattle.ml_realize.specs.declared.realizing.TheConstants.{MOST_NODES}

abbrev pub most_nodes : ℕ
most_nodes = MOST_NODES

abbrev pub valuations : List (List ℕ) → ℕ
valuations ns = 2 ^ length ns

pub record IsRowOf (ns : List (List ℕ)) (a : Automaton) (row : List (List Transition)) : Type 0 where
  pub one_each : length row ≡ valuations ns
  pub transitions : (v : ℕ) → v < length row → HasTransitions a (members ns v) (get_or row v [])

pub record Reading (t : Task) : Type 0 where
  pub automaton : Automaton
  pub row : List (List Transition)
  pub is_automaton : IsAutomatonOf automaton t.formula true
  pub is_row : IsRowOf (names_of t) automaton row

abbrev pub IsLarge : Task → Type 0
IsLarge t = HasMoreThan (start_block t.formula true) most_nodes

abbrev pub states : {t : Task} → Reading t → ℕ
states r = length r.automaton.states

abbrev pub HasMore : {t : Task} → Reading t → ℕ → Type 0
HasMore {t} r n =
    HasMorePositions (histories_of (states r) r.row) (start 0) (neutral (states r)) (inputs_of t) (outputs_of t) n

pub record PassesLimit (t : Task) (n : ℕ) : Type 0 where
  pub reading : Reading t
  pub few : size reading.automaton.graph ≤ most_nodes
  pub more : HasMore reading n

pub record IsFound (t : Task) (n : ℕ) (r : Outcome) : Type 0 where
  pub reading : Reading t
  pub few : size reading.automaton.graph ≤ most_nodes
  pub within : ¬ (HasMore reading n)
  pub moves : List (List DetMove)
  pub are_numbered : IsNumbered (states reading) reading.row 0 moves
  pub is_outcome : IsOutcome (inputs_of t) (outputs_of t) (neutral (states reading)) moves r
