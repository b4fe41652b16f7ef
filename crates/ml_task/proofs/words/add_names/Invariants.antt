use Rattle.std.proofs.Common.{◌≡◌, ◌++◌, take, drop}
use Rattle.ml_task.specs.Task.{are_new}
use Rattle.ml_task.proofs.words.add_names.Given as goal

abbrev pub invariant-loop-name : goal.invariant-loop-name
invariant-loop-name l =
    (l.seen.keys ≡ l.fn.seen.keys ++ take l.name-index l.names)
    × (are_new l.seen.keys (drop l.name-index l.names) ≡ are_new l.fn.seen.keys l.names)
