use Rattle.std.proofs.Common.{map}
use Rattle.ml_kripke.proofs.BodyReads.{AreRowsTo}
use Rattle.ml_kripke.proofs.read.read_rows.Given as goal

abbrev pub invariant-loop-state : goal.invariant-loop-state
invariant-loop-state l = AreRowsTo l.fn.text (map (λ row. row.items) l.rows.items) l.state l.rest
