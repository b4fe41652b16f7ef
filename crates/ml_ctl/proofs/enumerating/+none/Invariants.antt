-- Each half has fewer propositions.
use Rattle.std.proofs.Common.{length}
use Rattle.ml_ctl.proofs.enumerating.+none.Given as goal

abbrev pub decreases-none : goal.decreases-none
decreases-none g l = length l.names.now
