use Rattle.std.proofs.Common.{◌/◌}
use Rattle.ml_synthesis.specs.Synthesis.{nexts}
use Rattle.ml_synthesis.specs.private.Numbered.{AreStepsAt, IsRowMet}
use Rattle.ml_synthesis.proofs.machine_making.steps_of.Given as goal

abbrev pub invariant-loop-ins : goal.invariant-loop-ins
invariant-loop-ins l =
    AreStepsAt l.arena.input_sets l.arena.base l.arena.arrivals.keys l.arena.game l.solution.choice l.states.keys
    l.state l.ins l.row.items
    × IsRowMet 0 (l.arena.base / l.arena.input_sets) l.fn.states.keys (nexts l.row.items) l.states.keys
