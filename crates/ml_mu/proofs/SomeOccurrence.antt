-- Each formula has an occurrence.
use Rattle.std.proofs.Common.{◌≤◌, arith}
use Rattle.ml_mu.specs.Formula.{Formula, Const, Prop, Var, Not, Binary, Modal, Binder, occurrences}

pub some_occurrence : (f : Formula) → 1 ≤ occurrences f
some_occurrence (Const b) = omega arith
some_occurrence (Prop p) = omega arith
some_occurrence (Var x) = omega arith
some_occurrence (Not f) = omega arith
some_occurrence (Binary op f g) = omega (arith, some_occurrence f)
some_occurrence (Modal m a f) = omega arith
some_occurrence (Binder q x f) = omega arith
