use Rattle.std.proofs.Common.{◌≡◌, nat_eq, take}
use Rattle.indexmap.specs.IndexSet.{insert_all}
use Rattle.ml_extract.proofs.states.add_all.Given as goal

abbrev pub invariant-loop-position : goal.invariant-loop-position
invariant-loop-position l =
    l.firsts.keys ≡ insert_all nat_eq l.initial.firsts.keys (take l.position-index l.positions)
