-- Positions of the decision game.
--
-- At a position a set of nodes, the sequent, is to hold together at a state. Its history tells how these nodes came there,
-- along the traces of all steps so far; its choice, which sides were taken at or-nodes since the last step. A position
-- has the priority of the mark of the step that led to it, and the neutral one where none did or a side was chosen since.
--
--   Position             == a sequent, a history, a priority, a choice
--   automaton_states g   == how many states the trace automaton of g has
--   neutral g            == the neutral priority, above those of all marks
--   start_of g           == the start: the root alone, with its history, the neutral priority and no choice
--   with_chosen g p o s  == the position p with the side s chosen at its or-node o
--   Follows g p sp d q   == the step along the diamond d, from p with the spread sp, leads to q
use Rattle.std.specs.Prelude.{ℕ, ◌≡◌, ◌+◌, ◌*◌, List, [], ◌∷◌, None}
use Rattle.ml_graph.specs.Graph.{Graph, size, odd_priorities}
use Rattle.ml_history.specs.HistoryStep.{start}
use Rattle.ml_history.specs.HistoryStep.{stepped, step_mark}
use Rattle.ml_sequent.specs.declared.choice.Side.{Side}
use Rattle.ml_sequent.specs.Choice.{with_side}
use Rattle.ml_sequent.specs.Spread.{SpreadList}
use Rattle.ml_sequent.specs.Step.{IsStep}
use Rattle.ml_trace.specs.declared.letters.Transition.{Transition}
use Rattle.ml_trace.specs.declared.letters.Triple.{Triple}
use Rattle.ml_trace.specs.Automaton.{states_per_node, number, IsLetterOf}
use Rattle.ml_trace.specs.Marks.{priority}
use Rattle.ml_trace.specs.Stack.{Item}

pub record Position : Type 0 where
  pub sequent : List ℕ
  pub history : List (Item ℕ)
  pub priority : ℕ
  pub choice : List (ℕ × Side)

abbrev pub automaton_states : Graph → ℕ
automaton_states g = size g * states_per_node (odd_priorities g)

abbrev pub neutral : Graph → ℕ
neutral g = 2 * (automaton_states g + 1)

abbrev pub start_of : Graph → Position
start_of g = record {
  sequent = g.root ∷ [];
  history = start (number (odd_priorities g) (record { node = g.root; odd = None }));
  priority = neutral g;
  choice = [];
}

abbrev pub with_chosen : Graph → Position → ℕ → Side → Position
with_chosen g p o s = record {
  sequent = p.sequent;
  history = p.history;
  priority = neutral g;
  choice = with_side p.choice o s;
}

-- the targets, and the history behind the letter of the step's traces, with the priority of its mark
pub record Follows (g : Graph) (p : Position) (sp : SpreadList) (d : ℕ) (q : Position) : Type 0 where
  pub traces : List Triple
  pub letter : List Transition
  pub is_step : IsStep g p.sequent sp d q.sequent traces
  pub is_letter : IsLetterOf (odd_priorities g) traces letter
  pub history : q.history ≡ stepped p.history letter
  pub marked : q.priority ≡ priority (neutral g) (step_mark p.history letter)
  pub unchosen : q.choice ≡ []
