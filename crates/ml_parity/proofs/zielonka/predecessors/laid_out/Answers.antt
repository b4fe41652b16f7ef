-- The row of one vertex more is laid out.
use Rattle.std.proofs.Common.{arith, ◌≡◌, length}
use Rattle.ml_parity.proofs.ChainsOfMoves.{laid_next, rows_next}
use Rattle.ml_parity.proofs.zielonka.predecessors.laid_out.Goals as goal

pub loop-head-preserved : goal.loop-head-preserved
loop-head-preserved c =
    let count : c.len.result ≡ length c.follow.new.sources.items =
    omega (arith, c.len.ensures, c.follow.new.sources.ok.0) in
    record {
      laid = laid_next c.args.last.now c.args.arrows.now c.loop-head.head-index c.loop-head.starts.items
          c.push-in-loop-head.new.self.items c.loop-head.sources.items c.follow.new.sources.items c.len.result
          c.loop-head-test.true c.in_ok-follow.ensures count c.in_ok-push-2.ensures.items c.requires
          c.loop-head.invariant.laid;
      rows = λ rows chains. rows_next c.args.last.now c.args.arrows.now c.loop-head.head-index
          c.loop-head.starts.items c.push-in-loop-head.new.self.items c.loop-head.sources.items
          c.follow.new.sources.items c.len.result rows c.loop-head-test.true c.in_ok-follow.ensures count
          c.in_ok-push-2.ensures.items chains c.loop-head.invariant.laid (c.loop-head.invariant.rows rows chains);
    }
