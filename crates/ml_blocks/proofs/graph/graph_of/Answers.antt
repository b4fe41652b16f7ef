use Rattle.std.proofs.Common.{not, None, subst}
use Rattle.ml_ctl.specs.Problem.{HoldsAt}
use Rattle.ml_ctl.specs.Term.{formula_of}
use Rattle.ml_blocks.specs.Agreement.{HoldsWhere}
use Rattle.ml_blocks.specs.BlockGraph.{IsGraphAt, start_of}
use Rattle.ml_blocks.specs.Closures.{HasMoreThan}
use Rattle.ml_blocks.specs.Places.{Root}
use Rattle.ml_blocks.specs.private.Views.{start_place}
use Rattle.ml_blocks.proofs.Agreement.{graphs_hold}
use Rattle.std.proofs.lemmas.Result.{IfOk-weaker}
use Rattle.ml_blocks.proofs.graph.graph_of.Goals as goal

pub returns-clause-agrees : goal.returns-clause-agrees
returns-clause-agrees c =
    let f = c.args.formula.now in
    let negated = c.args.negated in
    IfOk-weaker c.made.result (λ g. IsGraphAt g (start_place None (formula_of c.root.result.now) (not negated)))
    (λ g. HoldsWhere g (λ m s. HoldsAt m s f negated))
    (λ g is. graphs_hold f negated g c.root.ensures.well_formed.is_of_logic
    (subst (λ h. IsGraphAt g (start_place None h (not negated))) c.root.ensures.tree is))
    c.made.ensures.graph

pub returns-clause-graph : goal.returns-clause-graph
returns-clause-graph c =
    let negated = c.args.negated in
    IfOk-weaker c.made.result (λ g. IsGraphAt g (start_place None (formula_of c.root.result.now) (not negated)))
    (λ g. IsGraphAt g (start_of c.args.formula.now negated))
    (λ g. subst (λ h. IsGraphAt g (start_place None h (not negated))) c.root.ensures.tree)
    c.made.ensures.graph

pub returns-clause-too_large : goal.returns-clause-too_large
returns-clause-too_large c = λ e.
    subst (λ h. HasMoreThan (Root (start_place None h (not c.args.negated))) c.args.max) c.root.ensures.tree
    (c.made.ensures.too_large e)
