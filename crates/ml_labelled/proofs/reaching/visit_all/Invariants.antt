use Rattle.std.proofs.Common.{take}
use Rattle.ml_labelled.specs.private.Reaching.{IsSpread, targets}
use Rattle.ml_labelled.proofs.reaching.visit_all.Given as goal

abbrev pub invariant-loop-edge : goal.invariant-loop-edge
invariant-loop-edge l =
    IsSpread (targets (take l.edge-index l.edges)) l.fn.marks.items l.fn.waiting.items l.marks.items l.waiting.items
