use Rattle.std.proofs.Common.{length}
use Rattle.ml_driver.proofs.table.+verb_in.Given as goal

abbrev pub decreases-verb_in : goal.decreases-verb_in
decreases-verb_in l = length l.rows.now
