-- What is written of the sets so far, and what is left of the others.
use Rattle.std.proofs.Common.{◌≡◌, ◌-◌, ◌++◌}
use Rattle.std.specs.List.{flat_map, range_with_len}
use Rattle.ml_buchi.specs.private.Openings.{opening}
use Rattle.ml_buchi.proofs.writing.write_openings.Given as goal

abbrev pub invariant-loop-set : goal.invariant-loop-set
invariant-loop-set l =
    l.out.items ++ flat_map (opening l.top) (range_with_len l.set (l.top - 1 - l.set))
    ≡ l.fn.out.items ++ flat_map (opening l.top) (range_with_len 0 (l.top - 1))
