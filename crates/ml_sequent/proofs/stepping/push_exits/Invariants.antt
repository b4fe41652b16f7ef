use Rattle.std.proofs.Common.{◌≡◌, ◌++◌, take}
use Rattle.std.specs.List.{flat_map}
use Rattle.ml_sequent.specs.private.Exits.{exits}
use Rattle.ml_sequent.proofs.stepping.push_exits.Given as goal

abbrev pub invariant-loop-visit : goal.invariant-loop-visit
invariant-loop-visit l =
    l.traces.items ≡ l.initial.traces.items ++ flat_map (exits l.graph l.levels.priorities l.action l.diamond l.from) (take l.visit-index l.found)
