use Rattle.ml_paths.specs.private.Shortening.{IsRolled}
use Rattle.ml_paths.proofs.shortening.roll_back.Given as goal

abbrev pub invariant-loop-start : goal.invariant-loop-start
invariant-loop-start l =
    IsRolled (record { entries = l.states.items; start = l.start })
    (record { entries = l.fn.states.items; start = l.fn.loop_start })

abbrev pub decreases-loop-start : goal.decreases-loop-start
decreases-loop-start l = l.start
