use Rattle.std.proofs.Common.{sym}
use Rattle.ml_refutation_text.proofs.AscendingTests.{behind_more, behind_less, behind_done}
use Rattle.ml_refutation_text.proofs.lists.ascends_from.Goals as goal

pub returns-then-n-last : goal.returns-then-n-last
returns-then-n-last c =
    sym (behind_less c.args.first c.loop-n.last c.loop-n.n-index c.args.others.now c.loop-n.invariant c.loop-n-test.true c.if-n-last.true)

pub loop-n-preserved : goal.loop-n-preserved
loop-n-preserved c =
    behind_more c.args.first c.loop-n.last c.loop-n.n-index c.args.others.now c.loop-n.invariant c.loop-n-test.true c.if-n-last.false

pub returns : goal.returns
returns c = sym (behind_done c.args.first c.loop-n.last c.loop-n.n-index c.args.others.now c.loop-n.invariant c.loop-n-test.false)
