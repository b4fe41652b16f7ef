-- Each call has fewer symbols.
use Rattle.ml_ctl.specs.Formula.{occurrences}
use Rattle.ml_ctl.specs.Term.{formula_of}
use Rattle.ml_nodes.proofs.path_names.+collect.Given as goal

abbrev pub decreases-collect : goal.decreases-collect
decreases-collect l = occurrences (formula_of l.term.now)
