use Rattle.std.proofs.Common.{◌≡◌, ◌-◌}
use Rattle.ml_hoa.specs.private.Machine.{negated}
use Rattle.ml_hoa.specs.private.Views.{guard_of}
use Rattle.ml_hoa.proofs.level.negated.Given as goal

abbrev pub invariant-loop-done : goal.invariant-loop-done
invariant-loop-done l = record {
  same : negated l.fn.nots (guard_of l.fn.guard) ≡ negated (l.fn.nots - l.done) (guard_of l.guard);
}
