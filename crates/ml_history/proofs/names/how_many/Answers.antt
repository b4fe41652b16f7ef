use Rattle.std.proofs.Common.{rules, arith, ◌+◌, ◌<◌, ◌^◌}
use Rattle.ml_lists.proofs.Counting.{count_le}
use Rattle.ml_history.specs.private.TreeStep.{flagged}
use Rattle.ml_history.proofs.names.how_many.Goals as goal

pub overflow_add-many : goal.overflow_add-many
overflow_add-many c =
    let few = count_le (flagged c.args.flags.now) c.loop-flag.flag-index in
    let small : c.loop-flag.many + 1 < 2 ^ 32 =
    omega (arith, few, c.loop-flag.invariant, c.loop-flag-test.true, c.requires) in
    search (rules, small)
