use Rattle.ml_refutation_text.proofs.NumberWords.{IsAnyTo}
use Rattle.ml_refutation_text.proofs.words.read_any.Given as goal

abbrev pub invariant-loop-byte : goal.invariant-loop-byte
invariant-loop-byte l = IsAnyTo l.word l.byte-index l.n
