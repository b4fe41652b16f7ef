-- What is still to be counted stands at the place before `place`.
use Rattle.std.proofs.Common.{◌≡◌, ◌≤◌, ◌+◌, ◌*◌, take, drop}
use Rattle.ml_progress.specs.private.Codes.{Fits, code, space}
use Rattle.ml_progress.proofs.order.count_up.Given as goal

abbrev pub invariant-loop-place : goal.invariant-loop-place
invariant-loop-place l = record {
  fits : Fits l.bounds l.numbers;
  before : l.place ≤ l.cut;
  so_far : code l.bounds l.numbers + space (drop l.place l.bounds)
      ≡ (code (take l.cut l.bounds) (take l.cut l.initial.numbers) + 1) * space (drop l.cut l.bounds);
}

abbrev pub decreases-loop-place : goal.decreases-loop-place
decreases-loop-place l = l.place
