use Rattle.std.proofs.Common.{sym, arith, ◌&&◌, ◌*◌}
use Rattle.std.proofs.lemmas.Bool.{and_from}
use Rattle.ml_lists.proofs.Least.{least-is, least-no}
use Rattle.ml_history.specs.private.TreeStep.{flagged}
use Rattle.ml_history.proofs.names.least_green.Goals as goal

pub returns-then-standing-y : goal.returns-then-standing-y
returns-then-standing-y c =
    sym (least-is (λ y. flagged c.args.full.now y && flagged c.args.standing.now y) (2 * c.args.used) c.loop-y.y
    (omega arith)
    (and_from (flagged c.args.full.now c.loop-y.y) (flagged c.args.standing.now c.loop-y.y) c.if-full-y.true
    c.if-standing-y.true) c.loop-y.invariant)

pub returns : goal.returns
returns c = sym (least-no (λ y. flagged c.args.full.now y && flagged c.args.standing.now y) (2 * c.args.used)
    (λ k low. c.loop-y.invariant k (omega arith)))
