use Rattle.std.proofs.Common.{◌≡◌, ◌-◌, ◌+◌, refl, arith, drop, slice_set}
use Rattle.ml_pdl.proofs.MarkBytes.{known_before, known_all}
use Rattle.ml_pdl.proofs.marking.Marks.new.Goals as goal

pub loop-at-preserved : goal.loop-at-preserved
loop-at-preserved c =
    let at = c.loop-at.at in
    let k = c.loop-at.invariant in
    let text = c.args.text.now in
    let rest = drop at text in
    let step : at ≡ at - 1 + 1 = omega (arith, c.loop-at-test.true) in
    known_before at (at - 1) c.loop-at.flags.items (slice_set c.loop-at.flags.items (at - 1) c.in_ok-flags-2.field-0)
    c.loop-at.tests.items c.read_back.new.tests.items c.loop-at.asks c.asks_before-asks.result c.in_ok-flags-2.field-0
    text k step refl (c.in_ok-flags-2.ensures {u = tt} rest k.asked k.tells) (c.asks_before-asks.ensures rest k.asked)

pub returns : goal.returns
returns c =
    known_all c.loop-at.at c.loop-at.flags.items c.loop-at.tests.items c.loop-at.asks c.args.text.now c.loop-at.invariant
    (omega (arith, c.loop-at-test.false))
