-- The bounds and the cuts are made from the bad priorities.
use Rattle.std.proofs.Common.{◌∙◌, ap}
use Rattle.ml_parity.specs.Game.{ParityGame}
use Rattle.ml_progress.proofs.Scales.{scale_made}
use Rattle.ml_progress.proofs.scale.scale_of.Goals as goal

pub returns-clause-scale : goal.returns-clause-scale
returns-clause-scale c =
    scale_made c.args.game.now c.requires c.args.player c.in_ok-bad.bad.items c.deref.result.now c.deref-3.result.now
    c.deref-2.result.now c.in_ok-bounds.field-0.items c.in_ok-cuts.field-0.items c.in_ok-bad.ensures
    c.deref.ensures.value c.deref-3.ensures.value
    (c.deref-2.ensures.value ∙ ap (λ (h : ParityGame). h.priority) c.game.view_is) c.in_ok-bounds.ensures
    c.in_ok-cuts.ensures
