-- Each half has fewer propositions.
use Rattle.std.proofs.Common.{length}
use Rattle.ml_ctl.proofs.enumerating.+one.Given as goal

abbrev pub decreases-one : goal.decreases-one
decreases-one g l = length l.names.now
