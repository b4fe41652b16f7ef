-- One place is left before the cut, and what was counted is still to be counted there.
use Rattle.std.proofs.Common.{arith, ◌-◌}
use Rattle.ml_progress.proofs.Codes.{fits_long}
use Rattle.ml_progress.proofs.NextLists.{count_more, count_carry, count_over}
use Rattle.ml_progress.proofs.order.count_up.Goals as goal

pub bounds-numbers-place : goal.bounds-numbers-place
bounds-numbers-place c =
    omega (arith, c.requires.cut, fits_long c.args.bounds.now c.loop-place.numbers c.loop-place.invariant.fits)

pub bounds-numbers-place-then-numbers-place : goal.bounds-numbers-place-then-numbers-place
bounds-numbers-place-then-numbers-place c =
    omega (arith, c.requires.cut, fits_long c.args.bounds.now c.loop-place.numbers c.loop-place.invariant.fits)

pub bounds-numbers-place-then-numbers-place-2 : goal.bounds-numbers-place-then-numbers-place-2
bounds-numbers-place-then-numbers-place-2 c =
    omega (arith, c.requires.cut, fits_long c.args.bounds.now c.loop-place.numbers c.loop-place.invariant.fits)

pub bounds-numbers-place-in-loop-place : goal.bounds-numbers-place-in-loop-place
bounds-numbers-place-in-loop-place c =
    omega (arith, c.requires.cut, fits_long c.args.bounds.now c.loop-place.numbers c.loop-place.invariant.fits)

pub returns-then-numbers-place : goal.returns-then-numbers-place
returns-then-numbers-place c =
    count_more c.args.bounds.now c.loop-place.numbers (c.loop-place.place - 1) c.loop-place.place _
    c.loop-place.invariant.fits (omega (arith, c.requires.cut)) (omega arith) c.loop-place.invariant.so_far
    c.if-numbers-place.true

pub loop-place-preserved : goal.loop-place-preserved
loop-place-preserved c =
    let carried = count_carry c.args.bounds.now c.loop-place.numbers (c.loop-place.place - 1) c.loop-place.place _
    c.loop-place.invariant.fits (omega (arith, c.requires.cut)) (omega arith) c.loop-place.invariant.so_far
    c.if-numbers-place.false in
    record { fits = carried.0; before = omega arith; so_far = carried.1 }

pub returns : goal.returns
returns c =
    count_over c.args.bounds.now c.loop-place.numbers c.args.cut _ c.loop-place.place c.loop-place-test.false
    c.loop-place.invariant.so_far
