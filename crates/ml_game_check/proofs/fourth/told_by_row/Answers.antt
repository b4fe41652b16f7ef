-- Where the row is sorted, no cycle is bad.
use Rattle.ml_game_check.specs.private.Seams.{at}
use Rattle.ml_game_check.proofs.NoneBad.{sorted_no_bad_cycle}
use Rattle.ml_game_check.proofs.fourth.told_by_row.Goals as goal

pub returns-then-branch : goal.returns-then-branch
returns-then-branch c =
    sorted_no_bad_cycle c.args.game.now c.args.claims.now (at c.args.row.now.places.items) (at c.args.row.now.seams.items)
    (c.in_ok-is_sorted.ensures c.if-branch.true)
