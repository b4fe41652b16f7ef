use Rattle.std.proofs.Common.{◌≡◌, ◌≤◌, min, drop}
use Rattle.ml_lines.specs.Reading.{value, value_on}
use Rattle.ml_hoa.proofs.numbers.number_up_to.Given as goal

abbrev pub invariant-loop-digit : goal.invariant-loop-digit
invariant-loop-digit l = record {
  low : l.number ≤ l.fn.bound;
  same : min (value l.fn.digits) l.fn.bound ≡ min (value_on l.number (drop l.digit-index l.digits)) l.fn.bound;
}
