use Rattle.std.proofs.Common.{◌≡◌, ◌++◌}
use Rattle.ml_buchi.specs.private.Openings.{closings}
use Rattle.ml_buchi.proofs.writing.write_closings.Given as goal

abbrev pub invariant-loop : goal.invariant-loop
invariant-loop l = l.out.items ≡ l.fn.out.items ++ closings l.counter
