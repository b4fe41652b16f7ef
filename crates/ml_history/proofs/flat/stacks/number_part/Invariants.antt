-- The names from the place `rest` on have their numbers.
use Rattle.std.proofs.Common.{◌≤◌, get_or}
use Rattle.ml_history.specs.private.Arrays.{IsNumberedPart}
use Rattle.ml_history.proofs.flat.stacks.number_part.Given as goal

abbrev pub invariant-loop-rest : goal.invariant-loop-rest
invariant-loop-rest l = record {
  from : l.start ≤ l.rest;
  to : l.rest ≤ l.end;
  part : IsNumberedPart (λ y. get_or l.numbers y 0) l.rest l.end l.fn.names.items l.names.items;
}

abbrev pub decreases-loop-rest : goal.decreases-loop-rest
decreases-loop-rest l = l.rest
