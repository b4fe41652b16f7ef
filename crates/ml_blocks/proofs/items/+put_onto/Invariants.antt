-- The list gets shorter.
use Rattle.std.proofs.Common.{length}
use Rattle.ml_blocks.proofs.items.+put_onto.Given as goal

abbrev pub decreases-put_onto : goal.decreases-put_onto
decreases-put_onto l = length l.items.now
