use Rattle.std.proofs.Common.{arith}
use Rattle.ml_refutation_text.proofs.AscendingTests.{last_tells}
use Rattle.ml_refute_check.proofs.parts.all_below.Goals as goal

pub returns-in-len1-up : goal.returns-in-len1-up
returns-in-len1-up c =
    last_tells c.args.numbers.now c.args.bound c.requires (omega (arith, c.in-len1-up.len_at_least))
