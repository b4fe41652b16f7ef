-- One arc more.
use Rattle.std.proofs.Common.{◌≡◌, ◌∙◌, ◌⊎◌, inl, inr, true, false}
use Rattle.ml_parity.proofs.HeightSearches.{spread_on}
use Rattle.ml_parity.proofs.one_sided.cycles.spread_in_order.Goals as goal
use Rattle.ml_parity.proofs.one_sided.cycles.spread_in_order.Goals.{then-branch, else-branch}

pub loop-k-preserved : goal.loop-k-preserved
loop-k-preserved c =
    let joined : ((c.in_ok-find_at.field-0 ≡ true) × (c.if-branch.changed ≡ true))
    ⊎ ((c.in_ok-find_at.field-0 ≡ false) × (c.if-branch.changed ≡ c.loop-k.changed)) =
    elim c.if-branch.branch [
      | then-branch w ↦ inl (w.if-branch.true, w.changed-is)
      | else-branch w ↦
          inr (w.if-branch.false, w.changed-is)
    ] in
    record {
      search = c.in_ok-find_at.ensures.search;
      goal = c.in_ok-find_at.ensures.goal ∙ c.loop-k.invariant.goal;
      spread = spread_on c.args.graph.now c.args.priority c.args.search.now.found.items c.loop-k.search.found.items
          c.find_at.new.search.found.items c.loop-k.changed c.in_ok-find_at.field-0 c.if-branch.changed
          c.loop-k.invariant.spread c.in_ok-find_at.ensures.spread joined;
    }
