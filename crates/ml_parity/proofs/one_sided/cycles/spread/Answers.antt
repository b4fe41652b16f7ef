-- One arc more.
use Rattle.std.proofs.Common.{arith, subst, ◌≡◌, ◌∙◌, ◌⊎◌, inl, inr, true, false}
use Rattle.ml_parity.specs.HeightLists.{graph_of}
use Rattle.ml_parity.specs.private.HeightSteps.{IsSpread}
use Rattle.ml_parity.proofs.HeightRows.{arc_here, arcs_length}
use Rattle.ml_parity.proofs.HeightSearches.{spread_more}
use Rattle.ml_parity.proofs.one_sided.cycles.spread.Goals as goal
use Rattle.ml_parity.proofs.one_sided.cycles.spread.Goals.{then-branch, else-branch}

pub loop-arc-preserved : goal.loop-arc-preserved
loop-arc-preserved c =
    let joined : ((c.in_ok-find_along.field-0 ≡ true) × (c.if-branch.changed ≡ true))
    ⊎ ((c.in_ok-find_along.field-0 ≡ false) × (c.if-branch.changed ≡ c.loop-arc.changed)) =
    elim c.if-branch.branch [
      | then-branch w ↦ inl (w.if-branch.true, w.changed-is)
      | else-branch w ↦
          inr (w.if-branch.false, w.changed-is)
    ] in
    record {
      search = c.in_ok-find_along.ensures.search;
      goal = c.in_ok-find_along.ensures.goal ∙ c.loop-arc.invariant.goal;
      spread = spread_more c.args.graph.now c.args.priority c.args.search.now.found.items c.loop-arc.search.found.items
          c.find_along.new.search.found.items c.loop-arc.arc-index _ c.loop-arc.changed c.in_ok-find_along.field-0
          c.if-branch.changed (arc_here (graph_of c.graph.inside.size c.graph.inside.top c.graph.inside.arcs)
          c.args.graph.now c.graph.view_is c.deref-arc-items.result.now c.deref-arc-items.ensures.value
          c.loop-arc.arc-index record { from = 0; priority = 0; to = 0 } c.loop-arc-test.true)
          c.loop-arc.invariant.spread c.in_ok-find_along.ensures.finds joined;
    }

pub returns-clause-spread : goal.returns-clause-spread
returns-clause-spread c =
    let long = arcs_length (graph_of c.graph.inside.size c.graph.inside.top c.graph.inside.arcs) c.args.graph.now
    c.graph.view_is c.deref-arc-items.result.now c.deref-arc-items.ensures.value in
    subst (λ n. IsSpread c.args.graph.now c.args.priority c.args.search.now.found.items c.loop-arc.search.found.items n
    c.loop-arc.changed) (omega (arith, long, c.loop-arc-test.false, c.loop-arc.auto.arc-index-end))
    c.loop-arc.invariant.spread
