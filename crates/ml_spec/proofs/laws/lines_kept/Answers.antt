use Rattle.ml_spec.proofs.KeptLines.{keeps_lines}
use Rattle.ml_spec.proofs.laws.lines_kept.Goals as goal

pub returns : goal.returns
returns c = record { kept = keeps_lines }
