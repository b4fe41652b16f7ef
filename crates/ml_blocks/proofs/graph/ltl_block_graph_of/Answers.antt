use Rattle.std.proofs.Common.{not, true, Some, subst}
use Rattle.ml_ctl.specs.Term.{formula_of}
use Rattle.ml_blocks.specs.BlockClosures.{IsBlockGraph}
use Rattle.ml_blocks.specs.Closures.{HasMoreThan}
use Rattle.ml_blocks.specs.Places.{forms}
use Rattle.ml_blocks.specs.private.Views.{start_place}
use Rattle.ml_nodes.specs.ClosureGraph.{IsGraphFrom}
use Rattle.std.proofs.lemmas.Result.{IfOk-weaker}
use Rattle.ml_blocks.proofs.graph.ltl_block_graph_of.Goals as goal

pub returns-clause-graph : goal.returns-clause-graph
returns-clause-graph c =
    let negated = c.args.negated in
    IfOk-weaker c.made.result (λ g. IsGraphFrom forms g (start_place (Some (not negated)) (formula_of c.root.result.now) true))
    (λ g. IsBlockGraph g c.args.formula.now negated)
    (λ g. subst (λ h. IsGraphFrom forms g (start_place (Some (not negated)) h true)) c.root.ensures.tree)
    c.made.ensures.graph

pub returns-clause-too_large : goal.returns-clause-too_large
returns-clause-too_large c = λ e.
    subst (λ h. HasMoreThan (start_place (Some (not c.args.negated)) h true) c.args.max) c.root.ensures.tree
    (c.made.ensures.too_large e)
