use Rattle.std.proofs.Common.{rules}
use Rattle.std.proofs.lemmas.List.{take_rest}
use Rattle.ml_base.proofs.Pieces.{taken_more}
use Rattle.ml_base.proofs.whole.write_all.Goals as goal

pub loop-done-preserved : goal.loop-done-preserved
loop-done-preserved g c =
    let kept = c.loop-done.invariant in
    let bytes = c.args.bytes.now in
    let done = c.loop-done.done in
    let more = taken_more _ _ _ bytes _ done c.in-Ok.count kept.1 (take_rest bytes done) c.in-Ok.ensures.appended in
    (search rules, more, search rules)
