use Rattle.ml_lines.proofs.Numbers.{IsReadTo}
use Rattle.ml_lines.proofs.read.digits_value.Given as goal

abbrev pub invariant-loop-byte : goal.invariant-loop-byte
invariant-loop-byte l = IsReadTo l.word l.byte-index l.n
