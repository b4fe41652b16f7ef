-- Letters for valuations, and the game over the histories of a Büchi automaton with such letters. Private contracts and proofs
-- cite this.
--
--   AreFirst ns a row           == the row has the transitions of the automaton a under the letter of each valuation below its
--                                  length
--   Passes states row i o n     == the game has more than n positions
--   of_automaton e              == what is refused where the automaton is
--   IsPlayed states row i o n r == it hasn't, and the outcome r is made for the histories
use Rattle.std.specs.Prelude.{ℕ, ◌<◌, List, [], length, get_or}
use Rattle.ml_determinise.specs.Histories.{histories_of, neutral}
use Rattle.ml_determinise.specs.Numbering.{IsNumbered}
use Rattle.ml_determinise.specs.declared.moves.DetMove.{DetMove}
use Rattle.ml_graph.specs.declared.refusals.ClosureRefusal.{ClosureRefusal}
use Rattle.ml_graph.specs.declared.refusals.ClosureRefusal.TheVariants as block
use Rattle.ml_history.specs.HistoryStep.{start}
use Rattle.ml_synthesis.specs.Game.{HasMorePositions}
use Rattle.ml_synthesis.specs.Synthesis.{IsOutcome}
use Rattle.ml_synthesis.specs.declared.outcome.Outcome.{Outcome}
use Rattle.ml_task.specs.NameSets.{members}
use Rattle.ml_trace.specs.declared.letters.Transition.{Transition}
use Rattle.ml_word_automaton.specs.Letters.{Automaton, HasTransitions}
use Rattle.ml_realize.specs.declared.refusals.RealizeRefusal.{RealizeRefusal}
use Rattle.ml_realize.specs.declared.refusals.RealizeRefusal.TheVariants as refusal

abbrev pub AreFirst : List (List ℕ) → Automaton → List (List Transition) → Type 0
AreFirst ns a row = (v : ℕ) → v < length row → HasTransitions a (members ns v) (get_or row v [])

abbrev pub Passes : ℕ → List (List Transition) → ℕ → ℕ → ℕ → Type 0
Passes states row i o n = HasMorePositions (histories_of states row) (start 0) (neutral states) i o n

pub record IsPlayed (states : ℕ) (row : List (List Transition)) (i o n : ℕ) (r : Outcome) : Type 0 where
  pub within : ¬ (Passes states row i o n)
  pub moves : List (List DetMove)
  pub are_numbered : IsNumbered states row 0 moves
  pub is_outcome : IsOutcome i o (neutral states) moves r

abbrev pub of_automaton : ClosureRefusal → RealizeRefusal
of_automaton block.ClosureTooLarge = refusal.ClosureTooLarge
of_automaton block.NoMemory = refusal.NoMemory
