-- Each call has fewer symbols.
use Rattle.ml_ctl.specs.Formula.{occurrences}
use Rattle.ml_ctl.specs.Term.{formula_of}
use Rattle.ml_blocks.proofs.table.+gather.Given as goal

abbrev pub decreases-gather : goal.decreases-gather
decreases-gather l = occurrences (formula_of l.term.now)
