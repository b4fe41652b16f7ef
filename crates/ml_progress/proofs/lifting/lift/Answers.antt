-- The chosen successor tells the least value, and the vertex gets it if that is above what it has.
use Rattle.std.proofs.Common.{◌∙◌, None, Some, ap, arith, length, subst}
use Rattle.ml_progress.specs.Measure.{is_bad}
use Rattle.ml_progress.specs.private.Codes.{IsTarget, listed}
use Rattle.ml_progress.proofs.LiftSteps.{cut_low, lifted, top_target}
use Rattle.ml_progress.proofs.lifting.lift.Goals as goal
use Rattle.ml_progress.proofs.lifting.lift.Goals.{else-not-is_top-via-then-not-is_top+else-least_progress, else-not-is_top-via-else-not-is_top}

pub extreme_vertex-to-requires-clause-cut : goal.extreme_vertex-to-requires-clause-cut
extreme_vertex-to-requires-clause-cut c =
    let low = cut_low c.args.game.now c.args.scale.now.player c.args.vertex c.index-cut.result.now
    c.args.scale.now.bounds.items c.args.scale.now.cuts.items c.requires.scale c.requires.vertex c.index-cut.ensures in
    omega (arith, c.requires.wide)

pub least_progress-requires-clause-cut : goal.least_progress-requires-clause-cut
least_progress-requires-clause-cut c =
    let low = cut_low c.args.game.now c.args.scale.now.player c.args.vertex c.index-cut.result.now
    c.args.scale.now.bounds.items c.args.scale.now.cuts.items c.requires.scale c.requires.vertex c.index-cut.ensures in
    omega (arith, ap length c.deref.ensures.value)

pub returns-then-least_progress-clause-lifted : goal.returns-then-least_progress-clause-lifted
returns-then-least_progress-clause-lifted c =
    lifted c.args.game.now c.args.scale.now.player c.args.vertex c.index-cut.result.now c.args.scale.now.bounds.items
    c.args.scale.now.cuts.items c.requires.scale c.requires.vertex c.index-cut.ensures c.args.table.now.rows c.requires.low
    c.extreme_vertex-to.result c.moves_at.result.now c.is_owned_by-own.result c.is_bad-bad.result c.moves_at.ensures.moves
    c.extreme_vertex-to.ensures.member c.is_owned_by-own.ensures c.extreme_vertex-to.ensures.extreme
    (c.is_bad-bad.ensures ∙ ap (is_bad c.args.scale.now.player) c.priority_at.ensures)
    c.raise.new.self.rows c.raise.result (Some c.row.result.now) (Some c.least_progress.new.next) c.row.ensures.row
    (subst (λ bs. IsTarget c.index-cut.result.now bs c.is_bad-bad.result (Some c.row.result.now) (Some c.least_progress.new.next))
    c.deref.ensures.value
    (subst (λ b. IsTarget c.index-cut.result.now c.deref.result.now c.is_bad-bad.result (Some c.row.result.now)
    (listed b c.least_progress.new.next)) c.if-least_progress.true c.least_progress.ensures))
    c.raise.ensures.raised

pub returns-else-not-is_top-clause-lifted : goal.returns-else-not-is_top-clause-lifted
returns-else-not-is_top-clause-lifted c =
    let made = lifted c.args.game.now c.args.scale.now.player c.args.vertex c.index-cut.result.now
    c.args.scale.now.bounds.items c.args.scale.now.cuts.items c.requires.scale c.requires.vertex c.index-cut.ensures
    c.args.table.now.rows c.requires.low c.extreme_vertex-to.result c.moves_at.result.now c.is_owned_by-own.result
    c.is_bad-bad.result c.moves_at.ensures.moves c.extreme_vertex-to.ensures.member c.is_owned_by-own.ensures
    c.extreme_vertex-to.ensures.extreme
    (c.is_bad-bad.ensures ∙ ap (is_bad c.args.scale.now.player) c.priority_at.ensures)
    c.raise_to_top.new.self.rows c.raise_to_top.result in
    elim c.else-not-is_top.branch [
      | else-not-is_top-via-then-not-is_top+else-least_progress w ↦
          made (Some w.row.result.now) None w.row.ensures.row
          (subst (λ bs. IsTarget c.index-cut.result.now bs c.is_bad-bad.result (Some w.row.result.now) None)
          w.deref.ensures.value
          (subst (λ b. IsTarget c.index-cut.result.now w.deref.result.now c.is_bad-bad.result (Some w.row.result.now)
          (listed b w.least_progress.new.next)) w.if-least_progress.false w.least_progress.ensures))
          c.raise_to_top.ensures.raised
      | else-not-is_top-via-else-not-is_top w ↦
          made None None (c.is_top.ensures.0 w.if-not-is_top.false)
          (top_target c.index-cut.result.now c.args.scale.now.bounds.items c.is_bad-bad.result)
          c.raise_to_top.ensures.raised
    ]
