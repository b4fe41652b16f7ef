use Rattle.std.proofs.Common.{◌≡◌, drop, false}
use Rattle.ml_hoa.specs.Tokens.{closing_quote}
use Rattle.ml_hoa.proofs.token.closing_quote.Given as goal

abbrev pub invariant-loop-at : goal.invariant-loop-at
invariant-loop-at l = record {
  same : closing_quote false 0 l.fn.text ≡ closing_quote l.taken l.at (drop l.at l.text);
}
