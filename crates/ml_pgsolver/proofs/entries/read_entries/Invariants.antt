-- What comes of the solution comes of the signs that are left.
use Rattle.std.proofs.Common.{◌≡◌, ◌-◌, ◌≤◌, length}
use Rattle.ml_pgsolver.specs.private.EntryMachine.{entries_come, start, state_of}
use Rattle.ml_pgsolver.specs.private.Signs.{signs_from}
use Rattle.ml_pgsolver.proofs.entries.read_entries.Given as goal

abbrev pub invariant-loop-placed : goal.invariant-loop-placed
invariant-loop-placed l = record {
  within : l.at ≤ length l.text;
  comes : entries_come (length l.fn.text) start (signs_from l.fn.text l.fn.from)
      ≡ entries_come (length l.text) (state_of l.reader) (signs_from l.text l.at);
}

abbrev pub decreases-loop-placed : goal.decreases-loop-placed
decreases-loop-placed l = length l.text - l.at
