use Rattle.std.proofs.Common.{◌+◌}
use Rattle.ml_parity.specs.Refusal.{game_of}
use Rattle.ml_determinise.specs.Numbering.{rows_of}
use Rattle.ml_synthesis.specs.private.Arena.{IsDraft}
use Rattle.ml_synthesis.proofs.arena.add_states.Given as goal

abbrev pub invariant-loop-arrival : goal.invariant-loop-arrival
invariant-loop-arrival l =
    IsDraft l.automaton.input_sets l.automaton.output_sets l.automaton.neutral (rows_of l.automaton.moves.now)
    l.arrivals.keys (game_of l.draft.owner l.draft.priority l.draft.successors) (l.base + l.arrival-index)
