use Rattle.std.proofs.Common.{ℕ, ◌≡◌, ◌∙◌, List, IfOk, ap, subst}
use Rattle.std.specs.List.{filter_map}
use Rattle.ml_graph.specs.Graph.{node_at}
use Rattle.ml_trace.specs.declared.letters.Triple.{Triple}
use Rattle.ml_sequent.specs.private.Exits.{exit_at, action_of, triples_to}
use Rattle.ml_sequent.proofs.stepping.triples_on.Goals as goal

pub returns : goal.returns
returns c =
    let g = c.args.graph.now in
    let nodes = c.deref.ensures.value ∙ c.in_ok-nodes.ensures in
    subst (λ (ts : List Triple). IfOk c.triples_to.result (λ triples. triples.items ≡ ts))
    (ap (triples_to c.args.from c.priority.result) nodes
    ∙ ap (λ (p : ℕ). triples_to c.args.from p (filter_map (exit_at g (action_of (node_at g c.args.diamond)) c.args.diamond) c.args.trail.now.nodes)) c.priority.ensures)
    c.triples_to.ensures
