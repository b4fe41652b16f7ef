use Rattle.std.proofs.Common.{◌≡◌, ◌-◌, ◌≤◌, length}
use Rattle.ml_pgsolver.specs.private.Assembled.{unknown_from}
use Rattle.ml_pgsolver.specs.private.Signs.{signs_from}
use Rattle.ml_pgsolver.proofs.reading.first_unknown.Given as goal

abbrev pub invariant-loop-placed : goal.invariant-loop-placed
invariant-loop-placed l = record {
  within : l.at ≤ length l.text;
  small : l.place ≤ l.at;
  comes : unknown_from l.fn.ids.keys (length l.fn.text) 0 (signs_from l.fn.text 0)
      ≡ unknown_from l.ids.keys (length l.text) l.place (signs_from l.text l.at);
}

abbrev pub decreases-loop-placed : goal.decreases-loop-placed
decreases-loop-placed l = length l.text - l.at
