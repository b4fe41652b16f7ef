use Rattle.std.proofs.Common.{rules, arith, ◌+◌, ◌<◌, ◌^◌}
use Rattle.ml_lists.proofs.Counting.{count_le}
use Rattle.ml_history.specs.private.TreeStep.{flagged}
use Rattle.ml_history.proofs.names.numbers.Goals as goal

pub overflow_add-below : goal.overflow_add-below
overflow_add-below c =
    let few = count_le (flagged c.args.flags.now) c.loop-flag.flag-index in
    let small : c.loop-flag.below + 1 < 2 ^ 32 =
    omega (arith, few, c.loop-flag.invariant.1, c.loop-flag-test.true, c.requires) in
    search (rules, small)
