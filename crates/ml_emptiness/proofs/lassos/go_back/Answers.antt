use Rattle.std.proofs.Common.{get_or, arith}
use Rattle.ml_emptiness.specs.Systems.{table_of}
use Rattle.ml_emptiness.proofs.Backwards.{way_longer}
use Rattle.ml_emptiness.proofs.lassos.go_back.Goals as goal

pub loop-at-preserved : goal.loop-at-preserved
loop-at-preserved c =
    let at = c.loop-at.at in
    let inv = c.loop-at.invariant in
    let met = c.requires.met.are_met at c.loop-at-test.true inv.0 in
    let longer = c.in_ok-add_step.ensures in (
      (let e = met.earlier in let l = inv.0 in omega arith),
      way_longer c.args._both.now.letters.now (table_of c.args._both.now.system.now) c.args.pairs.now
          c.loop-at.trail.states.items c.loop-at.trail.letters.items c.add_step.new.trail.states.items
          c.add_step.new.trail.letters.items (get_or c.args.origins.now at (record { from = 0; letter = 0 }))
          (record { state = 0; at = 0 }) at c.args.to longer.states longer.letters met inv.1,
    )
