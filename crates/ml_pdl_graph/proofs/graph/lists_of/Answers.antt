use Rattle.std.proofs.Common.{length, ap, ◌∙◌, arith}
use Rattle.ml_pdl.specs.Term.{formula_of}
use Rattle.ml_text.specs.Names.{Proposition, Action}
use Rattle.ml_text.proofs.Names.{few_added}
use Rattle.ml_pdl.specs.Formula.{occurrences}
use Rattle.ml_pdl.specs.FormulaNames.{names}
use Rattle.ml_pdl.proofs.Counting.{few_names}
use Rattle.ml_pdl_graph.proofs.PartSizes.{all_measured}
use Rattle.ml_pdl_graph.proofs.graph.lists_of.Goals as goal

pub place-requires-clause-names : goal.place-requires-clause-names
place-requires-clause-names c =
    let term = formula_of c.args.term.now in
    let listed = c.in_ok-names.ensures in (
      omega (arith, ap length listed.props, few_added Proposition (names term) (occurrences term) (few_names term), c.requires),
      omega (arith, ap length listed.actions, few_added Action (names term) (occurrences term) (few_names term), c.requires),
    )

pub place-requires-clause-sizes : goal.place-requires-clause-sizes
place-requires-clause-sizes c =
    all_measured c.deref.result.now (formula_of c.args.term.now) (c.deref.ensures.value ∙ c.in_ok-sizes.ensures)
