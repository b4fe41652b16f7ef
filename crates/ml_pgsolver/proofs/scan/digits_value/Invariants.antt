use Rattle.std.proofs.Common.{◌≡◌, ◌+◌, ◌-◌, ◌≤◌, length, drop}
use Rattle.std.specs.List.{take_while}
use Rattle.ml_text.specs.Bytes.{is_digit}
use Rattle.ml_pgsolver.specs.declared.scan.TheConstants.{CAP}
use Rattle.ml_pgsolver.specs.private.Signs.{capped_on, capped_value}
use Rattle.ml_pgsolver.proofs.scan.digits_value.Given as goal

abbrev pub invariant-loop-end : goal.invariant-loop-end
invariant-loop-end l = record {
  fits : l.value ≤ CAP;
  within : l.end ≤ length l.text;
  value : capped_value (take_while is_digit l.fn.text) ≡ capped_on l.value (take_while is_digit (drop l.end l.text));
  long : length (take_while is_digit l.fn.text) ≡ l.end + length (take_while is_digit (drop l.end l.text));
}

abbrev pub decreases-loop-end : goal.decreases-loop-end
decreases-loop-end l = length l.text - l.end
