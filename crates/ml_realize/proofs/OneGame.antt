-- The game of each reading of a task has as many positions.
--
--   same_states      == two readings have the same states
--   transition_alike == with the same transitions
--   letter_within    == so the letters of their rows have the same members
--   one_game         == and the histories go alike
use Rattle.std.proofs.Common.{◌≡◌, ℕ, ◌<◌, ◌≤◌, true, List, [], length, get_or, ⊎_elim, ap, subst, arith}
use Rattle.std.proofs.Math.ListN.{get_or-eq_default}
use Rattle.std.proofs.lemmas.Bool.{cases_lt}
use Rattle.ml_lists.specs.Member.{IsMember}
use Rattle.ml_lists.specs.Within.{Within}
use Rattle.ml_lists.proofs.Ascending.{ascending_same}
use Rattle.ml_trace.specs.Marks.{priority}
use Rattle.ml_trace.specs.Stack.{Item}
use Rattle.ml_trace.specs.declared.letters.Transition.{Transition}
use Rattle.ml_history.specs.HistoryStep.{start}
use Rattle.ml_history.specs.HistoryStep.{step_mark, stepped}
use Rattle.ml_history.proofs.definition.LetterSets.{letters_are_sets}
use Rattle.ml_determinise.specs.Histories.{histories_of, letter_at, neutral}
use Rattle.ml_synthesis.specs.Game.{HasMorePositions}
use Rattle.ml_nodes.specs.AlikeNodes.{AreAlike}
use Rattle.ml_word_automaton.specs.Letters.{IsTransition}
use Rattle.ml_word_automaton.specs.WordAutomaton.{Leads}
use Rattle.ml_word_automaton.specs.Words.{Letter}
use Rattle.ml_word_automaton.proofs.BlockGraphs.{one_graph}
use Rattle.ml_task.specs.Task.{Task}
use Rattle.ml_realize.specs.Laws.{OneGame}
use Rattle.ml_realize.specs.Realizing.{inputs_of, outputs_of}
use Rattle.ml_realize.specs.TaskGame.{Reading, states}
use Rattle.ml_word_automaton.proofs.AlikeGraphs.{leads_alike, states_alike}

graphs_alike : (t : Task) (r s : Reading t) → AreAlike r.automaton.graph s.automaton.graph
graphs_alike t r s =
    one_graph t.formula true r.automaton.graph s.automaton.graph r.is_automaton.is_graph s.is_automaton.is_graph

module _ (t : Task) (r s : Reading t) where
  state_within : (n : ℕ) → IsMember n r.automaton.states → IsMember n s.automaton.states
  state_within n member =
      (s.is_automaton.states.are_states n).1
      (states_alike r.automaton.graph s.automaton.graph (graphs_alike t r s) n
      ((r.is_automaton.states.are_states n).0 member))

same_states : (t : Task) (r s : Reading t) → r.automaton.states ≡ s.automaton.states
same_states t r s =
    ascending_same r.automaton.states s.automaton.states r.is_automaton.states.ascend s.is_automaton.states.ascend
    (state_within t r s) (state_within t s r)

module _ (t : Task) (r s : Reading t) where
  transition_alike : (l : Letter) (m : Transition) → IsTransition r.automaton l m → IsTransition s.automaton l m
  transition_alike l m x =
      let same = same_states t r s in record {
        from_state = subst (λ ns. m.from < length ns) same x.from_state;
        to_state = subst (λ ns. m.to < length ns) same x.to_state;
        leads =
            subst (λ ns. Leads s.automaton.graph l (get_or ns m.from 0) (get_or ns m.to 0) m.accepting) same
            (leads_alike r.automaton.graph s.automaton.graph (graphs_alike t r s) l
            (get_or r.automaton.states m.from 0) (get_or r.automaton.states m.to 0) m.accepting x.leads);
      }

  letter_within : (v : ℕ) → Within (letter_at r.row v) (letter_at s.row v)
  letter_within v m member =
      ⊎_elim
      (λ (low : v < length r.row).
      let other : v < length s.row = omega (arith, low, r.is_row.one_each, s.is_row.one_each) in
      (s.is_row.transitions v other m).1 (transition_alike _ m ((r.is_row.transitions v low m).0 member)))
      (λ (past : length r.row ≤ v). absurd (subst (IsMember m) (get_or-eq_default r.row [] past) member))
      (cases_lt v (length r.row))

module _ (t : Task) (r s : Reading t) (h : List (Item ℕ)) (v : ℕ) where
  step_alike : (stepped h (letter_at r.row v) ≡ stepped h (letter_at s.row v))
      × (step_mark h (letter_at r.row v) ≡ step_mark h (letter_at s.row v))
  step_alike =
      letters_are_sets h (letter_at r.row v) (letter_at s.row v) (letter_within t r s v) (letter_within t s r v)

pub one_game : OneGame
one_game t r s n more =
    let same : histories_of (states r) r.row ≡ histories_of (states r) s.row =
    (λ j. record {
      next = λ h v. (step_alike t r s h v).0 j;
      priority = λ h v. priority (neutral (states r)) ((step_alike t r s h v).1 j);
    }) in
    subst (λ k. HasMorePositions (histories_of k s.row) (start 0) (neutral k) (inputs_of t) (outputs_of t) n)
    (ap length (same_states t r s))
    (subst (λ d. HasMorePositions d (start 0) (neutral (states r)) (inputs_of t) (outputs_of t) n) same more)
