-- The rows that are read are those of the ends of the arc.
use Rattle.std.proofs.Common.{arith, ◌≡◌, IsTrue, length, get_or, ap, subst, ◌∙◌}
use Rattle.ml_parity.specs.Heights.{FallsAlong}
use Rattle.ml_parity.specs.OneSided.{OneSidedGraph}
use Rattle.ml_parity.specs.HeightLists.{graph_of}
use Rattle.ml_parity.specs.Refusal.{lists_of}
use Rattle.ml_parity.proofs.HeightRows.{arc_same, arc_read, falls-from, falls-to, falls_more}
use Rattle.ml_parity.proofs.one_sided.check.falls_everywhere.Goals as goal

pub row_falls-requires-clause-begins : goal.row_falls-requires-clause-begins
row_falls-requires-clause-begins c =
    (arc_read (graph_of c.graph.inside.size c.graph.inside.top c.graph.inside.arcs) c.args.graph.now c.args.rows.now
    c.graph.view_is c.graph.invariant c.requires c.deref-arc-items.result.now c.deref-arc-items.ensures.value
    c.loop-arc.arc-index record { from = 0; priority = 0; to = 0 } c.loop-arc-test.true c.index-rows-arc.result
    c.index-rows-arc-in-loop-arc.result c.deref.result.now c.deref-in-loop-arc.result.now c.index-rows-arc.is
    c.index-rows-arc-in-loop-arc.is c.deref.ensures.value c.deref-in-loop-arc.ensures.value).from_long

pub row_falls-requires-clause-ends : goal.row_falls-requires-clause-ends
row_falls-requires-clause-ends c =
    (arc_read (graph_of c.graph.inside.size c.graph.inside.top c.graph.inside.arcs) c.args.graph.now c.args.rows.now
    c.graph.view_is c.graph.invariant c.requires c.deref-arc-items.result.now c.deref-arc-items.ensures.value
    c.loop-arc.arc-index record { from = 0; priority = 0; to = 0 } c.loop-arc-test.true c.index-rows-arc.result
    c.index-rows-arc-in-loop-arc.result c.deref.result.now c.deref-in-loop-arc.result.now c.index-rows-arc.is
    c.index-rows-arc-in-loop-arc.is c.deref.ensures.value c.deref-in-loop-arc.ensures.value).to_long

pub returns-then-not-row_falls : goal.returns-then-not-row_falls
returns-then-not-row_falls c = (
  (λ h. absurd (cc)),
  (λ all.
      let read = arc_read (graph_of c.graph.inside.size c.graph.inside.top c.graph.inside.arcs) c.args.graph.now
      c.args.rows.now c.graph.view_is c.graph.invariant c.requires c.deref-arc-items.result.now
      c.deref-arc-items.ensures.value c.loop-arc.arc-index record { from = 0; priority = 0; to = 0 }
      c.loop-arc-test.true c.index-rows-arc.result c.index-rows-arc-in-loop-arc.result c.deref.result.now
      c.deref-in-loop-arc.result.now c.index-rows-arc.is c.index-rows-arc-in-loop-arc.is c.deref.ensures.value
      c.deref-in-loop-arc.ensures.value in
      let here : FallsAlong (lists_of c.args.rows.now)
      (get_or c.deref-arc-items.result.now c.loop-arc.arc-index record { from = 0; priority = 0; to = 0 }) =
      subst (FallsAlong (lists_of c.args.rows.now))
      (arc_same (graph_of c.graph.inside.size c.graph.inside.top c.graph.inside.arcs) c.args.graph.now
      c.graph.view_is c.deref-arc-items.result.now c.deref-arc-items.ensures.value c.loop-arc.arc-index
      record { from = 0; priority = 0; to = 0 })
      (all c.loop-arc.arc-index record { from = 0; priority = 0; to = 0 }
      (let e : length c.deref-arc-items.result.now
      ≡ length c.args.graph.now.arcs = ap length c.deref-arc-items.ensures.value
      ∙ ap (λ (k : OneSidedGraph). length k.arcs) c.graph.view_is in omega (arith, c.loop-arc-test.true))) in
      subst IsTrue c.if-not-row_falls.true
      (c.row_falls.ensures.1 (falls-to (lists_of c.args.rows.now) _ _ _ read here))),
)

pub loop-arc-preserved : goal.loop-arc-preserved
loop-arc-preserved c =
    let read = arc_read (graph_of c.graph.inside.size c.graph.inside.top c.graph.inside.arcs) c.args.graph.now
    c.args.rows.now c.graph.view_is c.graph.invariant c.requires c.deref-arc-items.result.now
    c.deref-arc-items.ensures.value c.loop-arc.arc-index record { from = 0; priority = 0; to = 0 }
    c.loop-arc-test.true c.index-rows-arc.result c.index-rows-arc-in-loop-arc.result c.deref.result.now
    c.deref-in-loop-arc.result.now c.index-rows-arc.is c.index-rows-arc-in-loop-arc.is c.deref.ensures.value
    c.deref-in-loop-arc.ensures.value in
    falls_more (lists_of c.args.rows.now) c.args.graph.now.arcs c.loop-arc.arc-index
    record { from = 0; priority = 0; to = 0 } _
    (let e : length c.deref-arc-items.result.now
    ≡ length c.args.graph.now.arcs = ap length c.deref-arc-items.ensures.value
    ∙ ap (λ (k : OneSidedGraph). length k.arcs) c.graph.view_is in omega (arith, c.loop-arc-test.true))
    (arc_same (graph_of c.graph.inside.size c.graph.inside.top c.graph.inside.arcs) c.args.graph.now c.graph.view_is
    c.deref-arc-items.result.now c.deref-arc-items.ensures.value c.loop-arc.arc-index
    record { from = 0; priority = 0; to = 0 }) c.loop-arc.invariant
    (falls-from (lists_of c.args.rows.now) _ _ _ read
    (c.row_falls.ensures.0 (let t : IsTrue c.row_falls.result = c.if-not-row_falls.false in t)))
