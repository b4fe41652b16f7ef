use Rattle.std.proofs.Common.{not, true, Some, subst}
use Rattle.ml_ltl.specs.Problem as ltl
use Rattle.ml_ctl.specs.Term.{formula_of}
use Rattle.ml_blocks.specs.Agreement.{HoldsWhere}
use Rattle.ml_blocks.specs.BlockGraph.{IsGraphAt, linear_start_of}
use Rattle.ml_blocks.specs.Closures.{HasMoreThan}
use Rattle.ml_blocks.specs.Places.{Root}
use Rattle.ml_blocks.specs.private.Views.{start_place}
use Rattle.ml_blocks.proofs.Agreement.{linear_graphs_hold}
use Rattle.std.proofs.lemmas.Result.{IfOk-weaker}
use Rattle.ml_blocks.proofs.graph.ltl_graph_of.Goals as goal

pub returns-clause-agrees : goal.returns-clause-agrees
returns-clause-agrees c =
    let f = c.args.formula.now in
    let negated = c.args.negated in
    IfOk-weaker c.made.result (λ g. IsGraphAt g (start_place (Some (not negated)) (formula_of c.root.result.now) true))
    (λ g. HoldsWhere g (λ m s. ltl.HoldsAt m s f negated))
    (λ g is. linear_graphs_hold f negated g
    (subst (λ h. IsGraphAt g (start_place (Some (not negated)) h true)) c.root.ensures.tree is))
    c.made.ensures.graph

pub returns-clause-graph : goal.returns-clause-graph
returns-clause-graph c =
    let negated = c.args.negated in
    IfOk-weaker c.made.result (λ g. IsGraphAt g (start_place (Some (not negated)) (formula_of c.root.result.now) true))
    (λ g. IsGraphAt g (linear_start_of c.args.formula.now negated))
    (λ g. subst (λ h. IsGraphAt g (start_place (Some (not negated)) h true)) c.root.ensures.tree)
    c.made.ensures.graph

pub returns-clause-too_large : goal.returns-clause-too_large
returns-clause-too_large c = λ e.
    subst (λ h. HasMoreThan (Root (start_place (Some (not c.args.negated)) h true)) c.args.max) c.root.ensures.tree
    (c.made.ensures.too_large e)
