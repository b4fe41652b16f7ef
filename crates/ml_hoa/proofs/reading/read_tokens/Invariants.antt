use Rattle.std.proofs.Common.{◌≡◌, ◌-◌, ◌≤◌, length, true}
use Rattle.ml_hoa.specs.Tokens.{tokens}
use Rattle.ml_hoa.specs.private.Machine.{outcome}
use Rattle.ml_hoa.specs.private.Views.{state_of, tokens_from}
use Rattle.ml_hoa.proofs.Pieces.{NoneCloses}
use Rattle.ml_hoa.proofs.reading.read_tokens.Given as goal

abbrev pub invariant-loop-at : goal.invariant-loop-at
invariant-loop-at l = record {
  within : l.at ≤ length l.text;
  none_closes : l.is_open ≡ true → NoneCloses l.text l.at;
  comes : outcome (state_of l.fn.reader) (tokens l.fn.text) ≡ outcome (state_of l.reader) (tokens_from l.text l.at);
}

abbrev pub decreases-loop-at : goal.decreases-loop-at
decreases-loop-at l = length l.text - l.at
