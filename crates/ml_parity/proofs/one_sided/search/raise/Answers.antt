-- The ends of the arc are vertices, and the number is raised to what the arc asks for.
use Rattle.std.proofs.Common.{arith, ◌+◌, ap, get_or}
use Rattle.ml_parity.specs.OneSided.{OneSidedGraph}
use Rattle.ml_parity.specs.HeightLists.{graph_of}
use Rattle.ml_parity.proofs.HeightRaises.{arc_ends, attained_set, too_high}
use Rattle.ml_parity.proofs.one_sided.search.raise.Goals as goal

pub returns-then-least-size-clause-pass : goal.returns-then-least-size-clause-pass
returns-then-least-size-clause-pass c =
    let size = ap (λ (g : OneSidedGraph). g.size) c.graph.view_is in
    too_high (graph_of c.graph.inside.size c.graph.inside.top c.graph.inside.arcs) c.args.graph.now c.graph.view_is
    c.graph.invariant c.args.priority c.args.numbers.now c.args.arc
    (c.weight.result + get_or c.args.numbers.now c.args.arc.to 0) c.requires.numbers c.requires.member
    c.if-arc-priority.false (ap (λ n. n + get_or c.args.numbers.now c.args.arc.to 0) c.weight.ensures)
    (omega (arith, size, c.if-least-size.true))

pub returns-clause-attained : goal.returns-clause-attained
returns-clause-attained c =
    let size = ap (λ (g : OneSidedGraph). g.size) c.graph.view_is in
    attained_set c.args.graph.now c.args.priority c.args.numbers.now c.args.arc
    (c.weight.result + get_or c.args.numbers.now c.args.arc.to 0) c.requires.numbers
    (arc_ends (graph_of c.graph.inside.size c.graph.inside.top c.graph.inside.arcs) c.args.graph.now c.graph.view_is
    c.graph.invariant c.args.arc c.requires.member) c.requires.member c.if-arc-priority.false
    (ap (λ n. n + get_or c.args.numbers.now c.args.arc.to 0) c.weight.ensures)
    (omega (arith, size, c.if-least-size.false))
