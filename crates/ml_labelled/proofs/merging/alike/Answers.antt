use Rattle.std.proofs.Common.{◌+◌, sym, subst}
use Rattle.ml_labelled.specs.private.Merging.{AreAlike}
use Rattle.ml_labelled.specs.private.Views.{rows_of}
use Rattle.ml_labelled.proofs.MergedStates.{alike_more}
use Rattle.ml_labelled.proofs.merging.alike.Goals as goal

pub loop-p-preserved : goal.loop-p-preserved
loop-p-preserved c =
    let rows = rows_of c.args.rows.now in
    subst (AreAlike (c.loop-p.p + 1) rows) (sym c.in_ok-push.ensures.items)
    (alike_more rows c.loop-p.targets.items c.loop-p.p c.in_ok-alike_to.field-0 c.loop-p.invariant c.in_ok-alike_to.ensures)
