use Rattle.std.proofs.Common.{arith}
use Rattle.ml_lines.proofs.Numbers.{all_read}
use Rattle.ml_lines.proofs.read.digits_value.Goals as goal

pub returns : goal.returns
returns c = all_read c.args.word.now c.loop-byte.byte-index c.loop-byte.n (omega arith) c.loop-byte.invariant
