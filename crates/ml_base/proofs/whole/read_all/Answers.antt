use Rattle.std.proofs.Common.{◌∙◌, rules}
use Rattle.ml_base.proofs.Pieces.{given_more}
use Rattle.ml_base.proofs.whole.read_all.Goals as goal

pub loop-filled-preserved : goal.loop-filled-preserved
loop-filled-preserved g c =
    let kept = c.loop-filled.invariant in
    let read = c.in-Ok.ensures in
    let room = c.in_ok-make_room.ensures in
    let more = given_more _ _ _ c.loop-filled.bytes.items c.read_behind.new.bytes.items c.loop-filled.filled c.in-Ok.count kept.2 (read.front ∙ room.front) read.given in
    (search rules, search rules, more, search rules)
