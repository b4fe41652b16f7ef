-- One vertex more is given.
use Rattle.std.proofs.Common.{arith, ◌∙◌}
use Rattle.std.proofs.lemmas.List.{get_or_default}
use Rattle.ml_parity.proofs.VertexOrderLoops.{given_more}
use Rattle.ml_parity.proofs.zielonka.vertex_order.give.Goals as goal

pub loop-at-preserved : goal.loop-at-preserved
loop-at-preserved c =
    given_more c.args.row.now.order.items c.args.row.now.place.items c.requires.row c.loop-at.at c.index.result.now
    (omega (arith, c.loop-at-test.true, c.requires.fits))
    (c.index.ensures ∙ get_or_default c.args.row.now.order.items c.loop-at.at _ 0
    (omega (arith, c.loop-at-test.true, c.requires.fits, c.requires.row.size))) c.args.rest c.args.player
    c.args.winner.now c.loop-at.winner (omega (arith, c.loop-at.auto.at))
    (omega (arith, c.requires.size, c.loop-at.auto.winner)) c.loop-at.invariant
