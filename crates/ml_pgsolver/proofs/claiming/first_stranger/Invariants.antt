-- What is found is found among the signs that are left.
use Rattle.std.proofs.Common.{◌≡◌, ◌-◌, ◌≤◌, length}
use Rattle.ml_pgsolver.specs.private.Claiming.{stranger_from}
use Rattle.ml_pgsolver.specs.private.Signs.{signs_from}
use Rattle.ml_pgsolver.proofs.claiming.first_stranger.Given as goal

abbrev pub invariant-loop-placed : goal.invariant-loop-placed
invariant-loop-placed l = record {
  within : l.at ≤ length l.text;
  small : l.place ≤ l.at;
  comes : stranger_from l.fn.ids (length l.fn.text) 1 (signs_from l.fn.text l.fn.from)
      ≡ stranger_from l.ids (length l.text) l.place (signs_from l.text l.at);
}

abbrev pub decreases-loop-placed : goal.decreases-loop-placed
decreases-loop-placed l = length l.text - l.at
