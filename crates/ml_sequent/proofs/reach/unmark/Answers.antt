use Rattle.std.proofs.Common.{◌∙◌, ◌<◌, false, get_or, length, arith}
use Rattle.std.proofs.lemmas.List.{length-set}
use Rattle.ml_sequent.specs.declared.reach.Visit.{Visit}
use Rattle.ml_sequent.specs.private.Reach.{code}
use Rattle.ml_sequent.proofs.Reaching.{unmarked_more}
use Rattle.ml_sequent.proofs.reach.unmark.Goals as goal

pub loop-visit-preserved : goal.loop-visit-preserved
loop-visit-preserved c =
    let found = c.args.found.now in
    let i = c.loop-visit.visit-index in
    let d : Visit = record { node = 0; rank = 0 } in
    let before = c.loop-visit.invariant in
    let low : code c.args.width (get_or found i d) < length c.args.marks.now.items = c.requires i d c.loop-visit-test.true in
    let room : code c.args.width (get_or found i d) < length c.loop-visit.marks.items = omega (arith, before.size) in
    record {
      size = length-set c.loop-visit.marks.items (code c.args.width (get_or found i d)) false ∙ before.size;
      unmarked = unmarked_more c.args.width c.args.marks.now.items c.loop-visit.marks.items found i d c.loop-visit-test.true room before.unmarked;
    }
