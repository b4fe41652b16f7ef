use Rattle.std.proofs.Common.{map, arith}
use Rattle.ml_refutation.specs.Views.{decision_of}
use Rattle.ml_refute.proofs.FoundEntries.{looked_few}
use Rattle.ml_refute.proofs.deciding.Decided.look_on.Goals as goal

pub loop-alloc-smaller : goal.loop-alloc-smaller
loop-alloc-smaller c =
    let few =
    looked_few c.args.game.now.graph.now c.args.game.now.arena.now c.args.game.now.solution.now c.requires.odd
    c.loop-alloc.self.vertices.keys (map decision_of c.loop-alloc.self.decisions.items) c.loop-alloc.invariant.1 in
    omega (
      arith,
      few,
      c.in_ok-look_at_next.ensures.one,
      c.loop-alloc-test.true,
      c.len.ensures,
      c.loop-alloc.self.decisions.ok,
      c.len-in-loop-alloc.ensures.len,
    )
