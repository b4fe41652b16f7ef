-- The deterministic automaton of the histories of a Büchi automaton.
--
-- The letters are numbers: letter number i of a row is a set of transitions between states below a number. (A number past the
-- row is the letter without transitions.) The states of the deterministic automaton are histories. A letter leads from one to
-- the history behind the step along it, with the number of the step's mark as the priority; the neutral priority is even,
-- and greater than those of all marks.
--
--   letter_at row i         == letter number i of the row
--   leads_in row            == how the letters lead, as those of a Büchi automaton
--   StaysBelow states row   == the transitions of the row have their ends below this number
--   neutral states          == the neutral priority
--   histories_of states row == the deterministic parity automaton of histories
--   SameWords               == from each state it accepts the words that the Büchi automaton accepts
use Rattle.std.specs.Prelude.{ℕ, ◌+◌, ◌*◌, ◌<◌, ◌↔◌, Bool, List, [], get_or}
use Rattle.ml_lists.specs.Member.{IsMember}
use Rattle.ml_trace.specs.declared.letters.Transition.{Transition}
use Rattle.ml_trace.specs.Marks.{priority}
use Rattle.ml_trace.specs.Run.{in_letter}
use Rattle.ml_trace.specs.Stack.{Item}
use Rattle.ml_trace.specs.WordAutomata.{WordLasso, IsWordLasso, IsAcceptedFrom, DetAutomaton, IsDetAcceptedFrom}
use Rattle.ml_history.specs.HistoryStep.{start}
use Rattle.ml_history.specs.HistoryStep.{stepped, step_mark}

abbrev pub letter_at : List (List Transition) → ℕ → List Transition
letter_at row i = get_or row i []

abbrev pub leads_in : List (List Transition) → ℕ → ℕ → ℕ → Bool → Type 0
leads_in row i = in_letter (letter_at row i)

pub record IsBelow (states : ℕ) (m : Transition) : Type 0 where
  pub from_low : m.from < states
  pub to_low : m.to < states

abbrev pub StaysBelow : ℕ → List (List Transition) → Type 0
StaysBelow states row = (i : ℕ) (m : Transition) → IsMember m (letter_at row i) → IsBelow states m

abbrev pub neutral : ℕ → ℕ
neutral states = 2 * (states + 1)

abbrev pub histories_of : ℕ → List (List Transition) → DetAutomaton (List (Item ℕ)) ℕ
histories_of states row = record {
  next = λ h i. stepped h (letter_at row i);
  priority = λ h i. priority (neutral states) (step_mark h (letter_at row i));
}

abbrev pub SameWords : Type 0
SameWords = (states : ℕ) (row : List (List Transition)) (q : ℕ) (w : WordLasso ℕ)
    → StaysBelow states row
    → q < states
    → IsWordLasso w
    → IsAcceptedFrom (leads_in row) q w ↔ IsDetAcceptedFrom (histories_of states row) (start q) w
