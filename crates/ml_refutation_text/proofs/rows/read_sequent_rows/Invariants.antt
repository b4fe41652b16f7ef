use Rattle.std.proofs.Common.{length}
use Rattle.ml_refutation_text.proofs.TablesRead.{SequentsTo}
use Rattle.ml_refutation_text.proofs.rows.read_sequent_rows.Given as goal

abbrev pub invariant-rows : goal.invariant-rows
invariant-rows l = SequentsTo l.size l.fn.at l.rows l.rest

abbrev pub decreases-rows : goal.decreases-rows
decreases-rows l = length l.rest.text.now
