use Rattle.std.proofs.Common.{◌≡◌, drop}
use Rattle.ml_refutation_text.specs.private.ItemReads.{ascends_behind}
use Rattle.ml_refutation_text.proofs.lists.ascends_from.Given as goal

abbrev pub invariant-loop-n : goal.invariant-loop-n
invariant-loop-n l = ascends_behind l.fn.first l.others ≡ ascends_behind l.last (drop l.n-index l.others)
