use Rattle.ml_trace.specs.Run.{in_letter}
use Rattle.ml_trace.proofs.OddLoop.{odd_loop}
use Rattle.ml_trace.proofs.laws.odd_loop_has_run.Goals as goal

pub returns : goal.returns
returns c = odd_loop in_letter
