-- No seam is as low as the priority up to the end.
use Rattle.ml_game_check.specs.private.Seams.{IsOpen, at}
use Rattle.ml_game_check.proofs.sorted.open_end.Given as goal

abbrev pub invariant-loop : goal.invariant-loop
invariant-loop l = IsOpen (at l.seams) l.priority l.start l.stop
