use Rattle.std.proofs.Common.{◌≤◌, length, map, sym, ap, ◌∙◌, subst, arith}
use Rattle.std.specs.List.{filter}
use Rattle.std.proofs.lemmas.List.{take_all}
use Rattle.ml_trace.specs.AutomatonNumbers.{HasSmallEnds}
use Rattle.ml_buchi.specs.Valuations.{may_take, transition_of}
use Rattle.ml_buchi.proofs.TakenEdges.{small_ends, small_props, taken_of}
use Rattle.ml_buchi.proofs.making.letter.Goals as goal

pub holds-requires : goal.holds-requires
holds-requires c =
    let edges = c.edges-edges in
    small_props c.args.automaton.now edges.ensures.automaton edges.result.now c.loop-edge.edge-index c.edge-item.result
    edges.ensures.value c.loop-edge-test.true c.edge-item.is

pub of-requires : goal.of-requires
of-requires c =
    let edges = c.edges-edges in
    let v = c.args.valuation in
    let i = c.loop-edge.edge-index in
    let ended : length edges.result.now ≤ i = omega (arith, c.loop-edge-test.false) in
    let whole = ap (taken_of v) (take_all i edges.result.now ended) in
    subst HasSmallEnds
    (sym (c.loop-edge.invariant ∙ whole ∙ ap (λ es. map transition_of (filter (may_take v) es)) edges.ensures.value))
    (small_ends c.args.automaton.now edges.ensures.automaton v)
