use Rattle.std.proofs.Common.{ℕ, ◌<◌, List, [], All, OnOk, ap, sym, subst, ◌∙◌}
use Rattle.ml_graph.specs.Graph.{Graph, size}
use Rattle.ml_sequent.specs.Branch.{BranchList}
use Rattle.ml_sequent.specs.Spread.{IsSpreadOf}
use Rattle.ml_sequent.specs.private.Trails.{IsJoined, spread_at}
use Rattle.ml_sequent.proofs.BranchQuestions.{begun, begun_own}
use Rattle.ml_sequent.proofs.branch.Branch.begin.Goals as goal

pub returns-clause-of : goal.returns-clause-of
returns-clause-of c =
    let g = c.graph-graph.result.now in
    let same = c.graph-graph.ensures ∙ ap (λ (b : BranchList). b.graph) c.self.view_is in
    let low = subst (λ (k : Graph). All (λ n. n < size k) c.args.sequent) (sym same) c.requires in
    let joined = subst (λ (xs : List ℕ). IsJoined xs [] c.reach_nodes.new.trail.nodes) c.values.ensures.value
    (subst (λ (xs : List ℕ). IsJoined c.values.result.now xs c.reach_nodes.new.trail.nodes) c.back_to.ensures.nodes
    c.in_ok-reach_nodes.ensures.joined) in
    subst (λ (k : Graph). OnOk c.grow.result (IsSpreadOf k c.args.sequent [] (spread_at c.grow.new.trail.nodes c.empty.result))) same
    (begun g c.args.sequent c.reach_nodes.new.trail.nodes c.grow.new.trail.nodes c.empty.result c.grow.result
    c.keeps.ensures.is_graph low joined c.empty.ensures c.grow.ensures.spread)

pub returns-clause-is_spread : goal.returns-clause-is_spread
returns-clause-is_spread c =
    begun_own c.args.self.now.graph c.args.sequent (spread_at c.grow.new.trail.nodes c.empty.result) [] c.grow.result
    (returns-clause-of c)
