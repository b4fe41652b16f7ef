use Rattle.std.proofs.Common.{◌≡◌, ◌≤◌, ◌-◌, drop, length}
use Rattle.ml_hoa.specs.Tokens.{closing_comment}
use Rattle.ml_hoa.proofs.token.closing_comment.Given as goal

abbrev pub invariant-loop-at : goal.invariant-loop-at
invariant-loop-at l = record {
  within : l.at ≤ length l.text;
  few : l.open ≤ l.at;
  same : closing_comment 0 0 l.fn.text ≡ closing_comment l.open l.at (drop l.at l.text);
}

abbrev pub decreases-loop-at : goal.decreases-loop-at
decreases-loop-at l = length l.text - l.at
