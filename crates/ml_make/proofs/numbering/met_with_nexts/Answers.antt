use Rattle.ml_make.proofs.Numbered.{run_more}
use Rattle.ml_make.proofs.numbering.met_with_nexts.Goals as goal

pub loop-next-preserved : goal.loop-next-preserved
loop-next-preserved c =
    run_more c.args.met c.loop-next.more c.in_ok-more.more c.args.nexts.now c.loop-next.next-index c.loop-next-test.true
    c.loop-next.invariant c.in_ok-more.ensures
