use Rattle.std.proofs.Common.{arith}
use Rattle.std.proofs.lemmas.Grind.{common_steps}
use Rattle.ml_base.specs.declared.structure.Edge.{Edge}
use Rattle.ml_base.specs.Name.{IsAction}
use Rattle.ml_lists.proofs.Members.{All-more_read}
use Rattle.ml_kripke.proofs.write.write_edges.Goals as goal

pub loop-edge-preserved : goal.loop-edge-preserved
loop-edge-preserved c = (
  grind (arith, common_steps),
  All-more_read (λ (e : Edge). IsAction e.action) c.args.edges.now c.loop-edge.edge-index c.edge-item.result
      c.loop-edge-test.true c.edge-item.is c.in_ok-write_edge.ensures.named c.loop-edge.invariant.1,
  grind (arith, common_steps),
)
