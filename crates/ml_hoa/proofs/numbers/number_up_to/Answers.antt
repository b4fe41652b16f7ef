use Rattle.std.proofs.Common.{◌≡◌, ◌+◌, ◌*◌, ◌-◌, min, get_or, ◌∙◌, sym, arith}
use Rattle.ml_hoa.proofs.Capped.{capped_step, capped_done}
use Rattle.ml_hoa.proofs.numbers.number_up_to.Goals as goal

pub loop-digit-preserved : goal.loop-digit-preserved
loop-digit-preserved c =
    let digits = c.args.digits.now in
    let i = c.loop-digit.digit-index in
    let n = c.loop-digit.number in
    let next : c.min-number.result ≡ min (10 * n + (get_or digits i 0 - 48)) c.args.bound =
    omega (arith, c.min-number.ensures, c.from.ensures, c.saturating_sub.ensures, c.from-in-loop-digit.ensures) in
    record {
      low = omega arith;
      same = c.loop-digit.invariant.same ∙ capped_step digits i n c.min-number.result c.args.bound c.loop-digit-test.true next;
    }

pub returns : goal.returns
returns c =
    sym (c.loop-digit.invariant.same
    ∙ capped_done c.args.digits.now c.loop-digit.digit-index c.loop-digit.number c.args.bound c.loop-digit-test.false
    c.loop-digit.invariant.low)
