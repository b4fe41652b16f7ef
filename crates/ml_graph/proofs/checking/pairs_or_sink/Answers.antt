use Rattle.std.proofs.Common.{◌≡◌, ◌+◌, ◌*◌, map, rules}
use Rattle.ml_graph.proofs.Making.{some_pairs}
use Rattle.ml_graph.proofs.checking.pairs_or_sink.Goals as goal

pub returns : goal.returns
returns c =
    let all : c.in_ok-collect.field-0.items ≡ map (λ t. t * c.args.size + c.args.node) c.args.states.now =
    search rules in
    some_pairs c.args.size c.args.node c.args.sink c.in_ok-collect.field-0.items c.args.states.now c.if-is_empty.ensures
    all
