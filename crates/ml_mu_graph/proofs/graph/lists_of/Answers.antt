use Rattle.std.proofs.Common.{length, ap, arith}
use Rattle.ml_mu.specs.Term.{formula_of}
use Rattle.ml_mu_graph.specs.private.Views.{none_around, around}
use Rattle.ml_mu_graph.proofs.Bindings.{low_same}
use Rattle.ml_text.specs.Names.{Proposition, Action}
use Rattle.ml_text.proofs.Names.{few_added}
use Rattle.ml_mu.specs.Formula.{occurrences}
use Rattle.ml_mu.specs.FormulaNames.{names}
use Rattle.ml_mu.proofs.Counting.{few_names}
use Rattle.ml_mu_graph.proofs.graph.lists_of.Goals as goal

pub place-requires-clause-names : goal.place-requires-clause-names
place-requires-clause-names c =
    let term = formula_of c.args.term.now in
    let listed = c.in_ok-names.ensures in (
      omega (arith, ap length listed.props, few_added Proposition (names term) (occurrences term) (few_names term), c.requires),
      omega (arith, ap length listed.actions, few_added Action (names term) (occurrences term) (few_names term), c.requires),
    )

pub place-requires-clause-binders : goal.place-requires-clause-binders
place-requires-clause-binders c =
    low_same none_around (around c.new-binders.result) 1000 c.new-binders.ensures (λ y. omega arith)
