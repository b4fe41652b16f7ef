use Rattle.std.proofs.Common.{ap, sym, ◌∙◌}
use Rattle.ml_blocks.specs.private.Forms.{focus_in}
use Rattle.ml_blocks.proofs.FocusTurns.{turned}
use Rattle.ml_blocks.proofs.spots.focus_behind.Goals as goal

pub returns-else-pending : goal.returns-else-pending
returns-else-pending c =
    turned c.args.eventualities.now c.args.focus c.if-count-eq0.false
    ∙ ap (focus_in c.args.eventualities.now c.args.focus) (sym c.if-pending.false)
