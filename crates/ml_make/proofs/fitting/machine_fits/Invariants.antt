use Rattle.std.proofs.Common.{◌^◌, length}
use Rattle.ml_make.specs.private.Fitting.{StepsFit}
use Rattle.ml_make.proofs.Fitted.{Below}
use Rattle.ml_make.proofs.fitting.machine_fits.Given as goal

abbrev pub invariant-loop-row : goal.invariant-loop-row
invariant-loop-row l = Below (StepsFit (2 ^ l.inputs) (2 ^ l.outputs) (length l.machine)) l.row-index l.machine
