-- The first numbers of the row, with zeros behind them, are the least list that is no lower; counted up, the least above.
use Rattle.std.proofs.Common.{arith}
use Rattle.ml_progress.proofs.Codes.{fits_long}
use Rattle.ml_progress.proofs.NextLists.{copied_fits, copied_zeros, copied_target}
use Rattle.ml_progress.proofs.order.least_progress.Goals as goal

pub copy_front-requires-clause-room : goal.copy_front-requires-clause-room
copy_front-requires-clause-room c =
    omega (arith, c.requires.room, fits_long c.args.bounds.now c.args.row.now c.requires.fits)

pub copy_front-requires-clause-cut : goal.copy_front-requires-clause-cut
copy_front-requires-clause-cut c =
    omega (arith, c.requires.cut, fits_long c.args.bounds.now c.args.row.now c.requires.fits)

pub count_up-requires-clause-fits : goal.count_up-requires-clause-fits
count_up-requires-clause-fits c =
    copied_fits c.args.cut c.args.bounds.now c.args.row.now c.copy_front.new.next c.requires.fits c.requires.cut
    c.copy_front.ensures

pub count_up-requires-clause-zeros : goal.count_up-requires-clause-zeros
count_up-requires-clause-zeros c =
    copied_zeros c.args.cut c.args.bounds.now c.args.row.now c.copy_front.new.next c.requires.fits c.requires.cut
    c.copy_front.ensures

pub returns-then-not-bad : goal.returns-then-not-bad
returns-then-not-bad c =
    copied_target c.args.cut c.args.bounds.now c.args.row.now c.copy_front.new.next c.requires.fits c.requires.cut
    c.copy_front.ensures c.args.bad c.if-not-bad.true
