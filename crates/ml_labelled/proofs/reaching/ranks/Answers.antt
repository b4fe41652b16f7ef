use Rattle.std.proofs.Common.{arith}
use Rattle.ml_lists.proofs.Counting.{count_le}
use Rattle.ml_labelled.specs.private.Reaching.{mark}
use Rattle.ml_labelled.proofs.reaching.ranks.Goals as goal

pub overflow_add-at : goal.overflow_add-at
overflow_add-at c =
    let l = c.loop-is_marked in
    let is = l.invariant.at_is in
    let below = c.loop-is_marked-test.true in
    let few = c.requires in
    omega (arith, count_le (mark c.args.marks.now) l.is_marked-index)
