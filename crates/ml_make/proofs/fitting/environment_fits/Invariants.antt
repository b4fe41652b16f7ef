use Rattle.std.proofs.Common.{◌^◌, length}
use Rattle.ml_make.specs.private.Fitting.{NextsFit}
use Rattle.ml_make.proofs.Fitted.{Below}
use Rattle.ml_make.proofs.fitting.environment_fits.Given as goal

abbrev pub invariant-loop-row : goal.invariant-loop-row
invariant-loop-row l =
    Below (NextsFit (2 ^ l.outputs) (length l.environment.plays)) l.row-index l.environment.next
