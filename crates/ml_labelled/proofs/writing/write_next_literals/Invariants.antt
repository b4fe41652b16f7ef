use Rattle.std.proofs.Common.{◌≡◌, ◌++◌, take}
use Rattle.std.specs.List.{flat_map}
use Rattle.ml_labelled.specs.LabelledText.{next_literal}
use Rattle.ml_labelled.proofs.writing.write_next_literals.Given as goal

abbrev pub invariant-loop-literal : goal.invariant-loop-literal
invariant-loop-literal l = l.out.items ≡ l.fn.out.items ++ flat_map next_literal (take l.literal-index l.literals)
