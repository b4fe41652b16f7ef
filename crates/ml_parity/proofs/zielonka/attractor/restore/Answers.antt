-- The predecessors of the vertex at one place more are counted up.
use Rattle.std.proofs.Common.{arith, ◌<◌}
use Rattle.ml_parity.specs.Game.{size}
use Rattle.ml_parity.proofs.AttractLoops.{preds_low, all_room, all_up}
use Rattle.ml_parity.proofs.zielonka.attractor.restore.Goals as goal

pub count_up-requires-clause-vertices : goal.count_up-requires-clause-vertices
count_up-requires-clause-vertices c =
    let low : c.loop-at.at < size c.args.game.now = omega (arith, c.loop-at-test.true, c.requires.fits) in
    preds_low c.args.game.now c.args.row.now.order.items c.args.row.now.place.items c.requires.row c.requires.size
    c.args.predecessors.now c.requires.predecessors c.loop-at.at c.index.result.now c.at.result.now
    c.loop-at.left low c.index.ensures c.at.ensures c.requires.game.lists

pub count_up-requires-clause-room : goal.count_up-requires-clause-room
count_up-requires-clause-room c =
    let low : c.loop-at.at < size c.args.game.now = omega (arith, c.loop-at-test.true, c.requires.fits) in
    all_room c.args.game.now c.args.row.now.order.items c.args.row.now.place.items c.requires.row c.requires.size
    c.args.predecessors.now c.requires.predecessors c.loop-at.at c.index.result.now c.at.result.now
    c.loop-at.left low c.index.ensures c.at.ensures c.loop-at.invariant

pub loop-at-preserved : goal.loop-at-preserved
loop-at-preserved c =
    let low : c.loop-at.at < size c.args.game.now = omega (arith, c.loop-at-test.true, c.requires.fits) in
    all_up c.args.game.now c.args.row.now.order.items c.args.row.now.place.items c.requires.row c.requires.size
    c.args.predecessors.now c.requires.predecessors c.loop-at.at c.index.result.now c.at.result.now
    c.loop-at.left low c.index.ensures c.at.ensures c.loop-at.invariant c.count_up.new.left c.count_up.ensures
