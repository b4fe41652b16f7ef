use Rattle.std.proofs.Common.{◌≡◌, ◌+◌, ◌-◌, ◌*◌, min, length, get_or, true, sym, ap, ◌∙◌, arith}
use Rattle.ml_text.specs.Bytes.{is_digit}
use Rattle.ml_pgsolver.specs.declared.scan.TheConstants.{CAP}
use Rattle.ml_pgsolver.proofs.Capped.{digit_more, digits_step}
use Rattle.ml_pgsolver.proofs.scan.digits_value.Goals as goal

pub loop-end-preserved : goal.loop-end-preserved
loop-end-preserved c =
    let text = c.args.text.now in
    let i = c.loop-end.end in
    let v = c.loop-end.value in
    let digit : is_digit (get_or text i 0) ≡ true = sym c.if-is_digit.ensures in
    let next : c.min-value.result ≡ min (10 * v + (get_or text i 0 - 48)) CAP =
    omega (arith, c.min-value.ensures, c.from.ensures, c.saturating_sub.ensures) in
    record {
      fits = omega (arith, c.min-value.ensures);
      within = omega arith;
      value = c.loop-end.invariant.value ∙ digits_step text i v c.min-value.result (omega arith) digit next;
      long = omega (arith, c.loop-end.invariant.long, ap length (digit_more text i (omega arith) digit));
    }
