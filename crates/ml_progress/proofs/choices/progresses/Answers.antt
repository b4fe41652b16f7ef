-- The first numbers of the two rows are compared.
use Rattle.std.proofs.Common.{ap, arith, ◌∙◌}
use Rattle.ml_progress.specs.Measure.{is_bad, measure_at}
use Rattle.ml_progress.proofs.LiftSteps.{cut_low, cut_read}
use Rattle.ml_progress.proofs.TestedMoves.{cut_taken, flat_move}
use Rattle.ml_progress.proofs.choices.progresses.Goals as goal

pub slice_bounds-from_cut-end : goal.slice_bounds-from_cut-end
slice_bounds-from_cut-end c =
    let low = cut_low c.args.game.now c.args.side.now.scale.player c.args.from c.index-cut.result.now
    c.args.side.now.scale.bounds.items c.args.side.now.scale.cuts.items c.requires.side.scale c.requires.from
    c.index-cut.ensures in
    cut_taken c.index-cut.result.now c.row.result.now (omega (arith, c.row.ensures.long, c.requires.side.wide))

pub slice_bounds-to_cut-end : goal.slice_bounds-to_cut-end
slice_bounds-to_cut-end c =
    let low = cut_low c.args.game.now c.args.side.now.scale.player c.args.from c.index-cut.result.now
    c.args.side.now.scale.bounds.items c.args.side.now.scale.cuts.items c.requires.side.scale c.requires.from
    c.index-cut.ensures in
    cut_taken c.index-cut.result.now c.row-2.result.now (omega (arith, c.row-2.ensures.long, c.requires.side.wide))

pub returns-else-is_bad : goal.returns-else-is_bad
returns-else-is_bad c =
    flat_move c.args.game.now c.args.side.now.scale.player c.args.from
    (measure_at c.args.side.now.table.rows c.args.from) (measure_at c.args.side.now.table.rows c.args.to)
    c.row.result.now c.row-2.result.now c.index-cut.result.now c.is_bad.result c.comes_before-else-is_bad.result
    c.row.ensures.row c.row-2.ensures.row
    (cut_read c.args.game.now c.args.side.now.scale.player c.args.from c.index-cut.result.now
    c.args.side.now.scale.bounds.items c.args.side.now.scale.cuts.items c.requires.side.scale c.requires.from
    c.index-cut.ensures)
    (c.is_bad.ensures ∙ ap (is_bad c.args.side.now.scale.player) c.priority_at.ensures) c.if-is_bad.false
    c.comes_before-else-is_bad.ensures
