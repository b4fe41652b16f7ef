use Rattle.ml_determinise.specs.Numbering.{rows_of}
use Rattle.ml_synthesis.specs.private.Arena.{IsAnswered}
use Rattle.ml_synthesis.proofs.arena.answers.Given as goal

abbrev pub invariant-loop-outs : goal.invariant-loop-outs
invariant-loop-outs l =
    IsAnswered l.automaton.input_sets l.automaton.output_sets l.base l.automaton.neutral (rows_of l.automaton.moves.now)
    l.fn.arrivals.keys l.state l.ins l.outs l.arrivals.keys l.vertices.items
