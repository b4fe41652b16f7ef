-- The match of the place is played again.
use Rattle.std.proofs.Common.{◌/◌, refl, arith}
use Rattle.ml_sequent.proofs.Tournaments.{replayed}
use Rattle.ml_sequent.proofs.tournament.enter.Goals as goal

pub loop-place-preserved : goal.loop-place-preserved
loop-place-preserved c =
    let l = c.loop-place in
    let both = replayed c.args.room l.place (l.place / 2) c.args.number l.slots.items c.args.slots.now.items
    c.index.result.now
    c.index-in-loop-place.result.now c.lesser.result c.args.entry l.invariant.low c.loop-place-test.true refl
    c.index.ensures
    c.index-in-loop-place.ensures c.lesser.ensures l.invariant.slotted l.invariant.entered in
    record { slotted = both.0; entered = both.1; low = omega (arith, l.invariant.low) }
