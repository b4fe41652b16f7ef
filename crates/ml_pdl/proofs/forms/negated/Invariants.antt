-- What is left of the negations, in front of the formula so far, is the whole.
use Rattle.std.proofs.Common.{◌≡◌}
use Rattle.ml_pdl.specs.Tables as tables
use Rattle.ml_pdl.specs.Term.{formula_of}
use Rattle.ml_pdl.proofs.forms.negated.Given as goal

abbrev pub invariant-loop-left : goal.invariant-loop-left
invariant-loop-left l = tables.negated l.left (formula_of l.term) ≡ tables.negated l.fn.negations (formula_of l.fn.term)

abbrev pub decreases-loop-left : goal.decreases-loop-left
decreases-loop-left l = l.left
