use Rattle.std.proofs.Common.{◌-◌, ◌∙◌, ap, arith, sym, take}
use Rattle.ml_lists.specs.Lasso.{Lasso}
use Rattle.ml_paths.proofs.ShorterLassos.{rolled_read}
use Rattle.ml_paths.proofs.shortening.roll_back.Goals as goal

pub loop-start-preserved : goal.loop-start-preserved
loop-start-preserved c =
    let l : Lasso = record { entries = c.args.states.now.items; start = c.args.loop_start } in
    let size = c.loop-start.states.ok.0 in
    let len = c.len.ensures in
    rolled_read l c.loop-start.states.items c.pop.new.self.items c.loop-start.start c.len.result c.index.result.now
    c.index-in-loop-start.result.now c.loop-start.invariant c.loop-start-test.true (omega (arith, size, len))
    c.index.ensures c.index-in-loop-start.ensures c.if-index.true
    (c.pop.ensures.rest ∙ ap (λ n. take (n - 1) c.loop-start.states.items) (sym len))
