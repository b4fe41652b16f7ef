use Rattle.std.proofs.Common.{◌≡◌, ◌-◌, ◌≤◌, length}
use Rattle.ml_pgsolver.specs.private.Machine.{outcome_from, start}
use Rattle.ml_pgsolver.specs.private.Rows.{state_of}
use Rattle.ml_pgsolver.specs.private.Signs.{signs_from}
use Rattle.ml_pgsolver.proofs.reader.read_rows.Given as goal

abbrev pub invariant-loop-placed : goal.invariant-loop-placed
invariant-loop-placed l = record {
  within : l.at ≤ length l.text;
  comes : outcome_from (length l.fn.text) start (signs_from l.fn.text 0)
      ≡ outcome_from (length l.text) (state_of l.reader) (signs_from l.text l.at);
}

abbrev pub decreases-loop-placed : goal.decreases-loop-placed
decreases-loop-placed l = length l.text - l.at
