-- What is played over the histories of a task's automaton answers the task.
--
--   Inputs and outputs, states and the row come as a program holds them, with equations that say what they are.
--
--   found    == an outcome that is made is found
--   right    == and right
--   passes   == a game that is too large is the task's
use Rattle.std.proofs.Common.{ℕ, ◌≡◌, ◌<◌, ◌≤◌, true, List, length, subst}
use Rattle.ml_graph.specs.Graph.{size}
use Rattle.ml_synthesis.specs.declared.outcome.Outcome.{Outcome}
use Rattle.ml_task.specs.Task.{IsTask, Task, names_of}
use Rattle.ml_trace.specs.declared.letters.Transition.{Transition}
use Rattle.ml_word_automaton.specs.Letters.{Automaton, IsAutomatonOf}
use Rattle.ml_word_automaton.proofs.RowsAccept.{lead_to_states}
use Rattle.ml_realize.specs.Realizing.{IsRight, inputs_of, outputs_of}
use Rattle.ml_realize.specs.TaskGame.{IsFound, IsRowOf, PassesLimit, most_nodes}
use Rattle.ml_realize.specs.private.Rows.{IsPlayed, Passes}
use Rattle.ml_realize.proofs.RightOutcomes as outcomes

module _ (t : Task) (ok : IsTask t) (a : Automaton) (is : IsAutomatonOf a t.formula true) (few : size a.graph ≤ most_nodes)
    (row rows : List (List Transition)) (is_row : IsRowOf (names_of t) a row) (same_row : rows ≡ row)
    (states i o n : ℕ) (same_states : states ≡ length a.states) (same_i : i ≡ inputs_of t) (same_o : o ≡ outputs_of t) where
  abbrev Played : Outcome → Type 0
  Played r = IsPlayed (length a.states) row (inputs_of t) (outputs_of t) n r

  played : (r : Outcome) → IsPlayed states rows i o n r → Played r
  played r p =
      subst (λ k. IsPlayed (length a.states) row (inputs_of t) k n r) same_o
      (subst (λ k. IsPlayed (length a.states) row k o n r) same_i
      (subst (λ k. IsPlayed (length a.states) k i o n r) same_row (subst (λ k. IsPlayed k rows i o n r) same_states p)))

  pub some_state : 0 < length a.states
  some_state = (lead_to_states a is.states).has_state

  pub found : (r : Outcome) → IsPlayed states rows i o n r → IsFound t n r
  found r p =
      let q = played r p in record {
        reading = record { automaton = a; row = row; is_automaton = is; is_row = is_row };
        few = few;
        within = q.within;
        moves = q.moves;
        are_numbered = q.are_numbered;
        is_outcome = q.is_outcome;
      }

  pub right : (r : Outcome) → IsPlayed states rows i o n r → IsRight t r
  right r p =
      let q = played r p in
      outcomes.right t ok a row q.moves is is_row some_state q.are_numbered r q.is_outcome

  pub passes : Passes states rows i o n → PassesLimit t n
  passes p = record {
    reading = record { automaton = a; row = row; is_automaton = is; is_row = is_row };
    few = few;
    more =
        subst (λ k. Passes (length a.states) row (inputs_of t) k n) same_o
        (subst (λ k. Passes (length a.states) row k o n) same_i
        (subst (λ k. Passes (length a.states) k i o n) same_row (subst (λ k. Passes k rows i o n) same_states p)));
  }
