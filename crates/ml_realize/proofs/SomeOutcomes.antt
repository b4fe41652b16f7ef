-- Each task is large, or its game is, or an outcome is found.
--
--   some_moves    == the histories of a row have a numbering
--   some_outcome  == so the game over their numbers has too many positions, or an outcome
use Rattle.std.proofs.Common.{◌≡◌, ℕ, ◌+◌, ◌^◌, ◌<◌, ◌≤◌, ◌⊎◌, true, List, length, inl, inr, ⊎_elim, refl, ap, ◌∙◌, length-append}
use Rattle.std.proofs.lemmas.Bool.{cases_lt}
use Rattle.ml_graph.specs.Graph.{size}
use Rattle.ml_trace.specs.Stack.{Item}
use Rattle.ml_trace.specs.declared.letters.Transition.{Transition}
use Rattle.ml_determinise.specs.Histories.{StaysBelow, neutral}
use Rattle.ml_determinise.specs.Numbering.{HasMoreThan, IsNumbered, IsNumberingWithin, automaton_of, most_histories, moves_of}
use Rattle.ml_determinise.specs.declared.moves.DetMove.{DetMove}
use Rattle.ml_determinise.proofs.BoundedHistories.{histories_are_bounded}
use Rattle.ml_determinise.proofs.Numberings.{some_numbering}
use Rattle.ml_synthesis.specs.Game.{HasMorePositions}
use Rattle.ml_synthesis.specs.Synthesis.{IsAutomaton}
use Rattle.ml_synthesis.specs.declared.outcome.Outcome.{Outcome}
use Rattle.ml_synthesis.proofs.SomeOutcomes as synthesis
use Rattle.ml_task.specs.Task.{Task, names_of}
use Rattle.ml_word_automaton.proofs.BlockGraphs.{one_size}
use Rattle.ml_word_automaton.proofs.RowsAccept.{lead_to_states}
use Rattle.ml_realize.specs.Laws.{SomeOutcome}
use Rattle.ml_realize.specs.Realizing.{inputs_of, outputs_of}
use Rattle.ml_realize.specs.TaskGame.{IsFound, PassesLimit, Reading, most_nodes, states}
use Rattle.ml_realize.proofs.HistoryGame.{is_accessible, is_automaton, to_histories, to_numbers}
use Rattle.ml_realize.proofs.RightOutcomes.{stays_below}
use Rattle.ml_realize.proofs.SomeReadings.{some_reading}

some_moves : (states : ℕ) (row : List (List Transition))
    → StaysBelow states row
    → 0 < states
    → (moves : List (List DetMove)) × IsNumbered states row 0 moves
some_moves states row stays some = by (some_numbering row 0 (most_histories states))
  where
    by : ((hs : List (List (Item ℕ))) × IsNumberingWithin row 0 (most_histories states) hs)
        ⊎ HasMoreThan row 0 (most_histories states)
        → (moves : List (List DetMove)) × IsNumbered states row 0 moves
    by (inl few) = (
      moves_of states row few.0,
      record { histories = few.0; is_numbering = few.1.is_numbering; moves_are = refl },
    )
    by (inr many) = absurd (histories_are_bounded states row 0 stays some many)

module _ (t : Task) (n : ℕ) (r : Reading t) (few : size r.automaton.graph ≤ most_nodes) where
  abbrev i : ℕ
  i = inputs_of t

  abbrev o : ℕ
  o = outputs_of t

  one_each : length r.row ≡ 2 ^ (i + o)
  one_each = r.is_row.one_each ∙ ap (λ k. 2 ^ k) (length-append t.inputs t.outputs)

  stays : StaysBelow (states r) r.row
  stays = stays_below (names_of t) r.automaton r.row r.is_row

  some : 0 < states r
  some = (lead_to_states r.automaton r.is_automaton.states).has_state

  module _ (moves : List (List DetMove)) (numbered : IsNumbered (states r) r.row 0 moves) where
    automaton : IsAutomaton i o (neutral (states r)) moves
    automaton = is_automaton (states r) r.row i o one_each moves numbered stays some

    passed_or_found : PassesLimit t n ⊎ ((x : Outcome) × IsFound t n x)
    passed_or_found =
        ⊎_elim
        (λ (more : HasMorePositions (automaton_of moves) 0 (neutral (states r)) i o n).
        inl (record {
          reading = r;
          few = few;
          more = to_histories (states r) r.row i o one_each moves numbered n more;
        }))
        (λ (within : HasMorePositions (automaton_of moves) 0 (neutral (states r)) i o n → ⊥).
        let outcome = synthesis.some_outcome i o (neutral (states r)) moves automaton in
        inr (
          outcome.0,
          record {
            reading = r;
            few = few;
            within = λ more. within (to_numbers (states r) r.row i o one_each moves numbered n more);
            moves = moves;
            are_numbered = numbered;
            is_outcome = outcome.1;
          },
        ))
        (synthesis.more_or_few i o (neutral (states r)) moves n automaton
        (is_accessible (states r) r.row i o one_each moves numbered))

  some_game : PassesLimit t n ⊎ ((x : Outcome) × IsFound t n x)
  some_game = let moves = some_moves (states r) r.row stays some in passed_or_found moves.0 moves.1

pub some_outcome : SomeOutcome
some_outcome t n =
    let r = some_reading t in
    ⊎_elim
    (λ (large : most_nodes < size r.automaton.graph).
    inl ((one_size t.formula true r.automaton.graph most_nodes r.is_automaton.is_graph).1 large))
    (λ (few : size r.automaton.graph ≤ most_nodes). inr (some_game t n r few))
    (cases_lt most_nodes (size r.automaton.graph))
