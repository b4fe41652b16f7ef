use Rattle.std.proofs.Common.{ℕ, List, filter, ap, ◌∙◌, arith}
use Rattle.std.proofs.lemmas.List.{take_all}
use Rattle.ml_lists.specs.Ascending.{ascending}
use Rattle.ml_graph.specs.Graph.{node_at}
use Rattle.ml_sequent.specs.Spread.{is_diamond}
use Rattle.ml_sequent.proofs.NotedClashes.{picked_ascending}
use Rattle.ml_sequent.proofs.questions.diamonds_on.Goals as goal

pub returns : goal.returns
returns c =
    let nodes = c.args.trail.now.nodes in
    let test = λ (n : ℕ). is_diamond (node_at c.args.graph.now n) in
    c.ascending.ensures ∙ ap ascending c.loop-place.invariant
    ∙ ap (λ (xs : List ℕ). ascending (filter test xs)) (take_all c.loop-place.place nodes (omega arith))
    ∙ picked_ascending test nodes
