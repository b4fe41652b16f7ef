use Rattle.std.proofs.Common.{arith}
use Rattle.ml_lists.proofs.Increasing.{ascending_of_increasing}
use Rattle.ml_search.proofs.well_formed.ascends.Goals as goal

pub returns : goal.returns
returns c =
    λ yes.
    ascending_of_increasing c.args.numbers.now (λ k within. c.loop-i.invariant k (omega (arith, within, c.loop-i-test.false)))
