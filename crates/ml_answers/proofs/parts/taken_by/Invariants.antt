use Rattle.std.proofs.Common.{◌≡◌, map, take}
use Rattle.ml_answers.specs.private.Marks.{is_named}
use Rattle.ml_answers.proofs.parts.taken_by.Given as goal

abbrev pub invariant-loop-mark : goal.invariant-loop-mark
invariant-loop-mark l = l.taken.items ≡ map is_named (take l.mark-index l.marks)
