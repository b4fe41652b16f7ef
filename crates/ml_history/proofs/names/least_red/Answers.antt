use Rattle.std.proofs.Common.{sym, arith, ltb, ◌&&◌, not, ◌*◌}
use Rattle.std.proofs.lemmas.Bool.{and_from, lt-ltb, not_from_false}
use Rattle.ml_lists.proofs.Least.{least-is, least-no}
use Rattle.ml_history.specs.private.TreeStep.{flagged}
use Rattle.ml_history.proofs.names.least_red.Goals as goal

pub returns-then-not-standing-y : goal.returns-then-not-standing-y
returns-then-not-standing-y c =
    sym (least-is (λ y. ltb y c.args.used && not (flagged c.args.standing.now y)) (2 * c.args.used) c.loop-y.y
    (omega arith)
    (and_from (ltb c.loop-y.y c.args.used) (not (flagged c.args.standing.now c.loop-y.y))
    (lt-ltb c.loop-y.y c.args.used c.if-y-used.true)
    (not_from_false (flagged c.args.standing.now c.loop-y.y) c.if-not-standing-y.true)) c.loop-y.invariant)

pub returns : goal.returns
returns c = sym (least-no (λ y. ltb y c.args.used && not (flagged c.args.standing.now y)) (2 * c.args.used)
    (λ k low. c.loop-y.invariant k (omega arith)))
