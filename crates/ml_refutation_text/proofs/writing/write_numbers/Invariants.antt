use Rattle.std.proofs.Common.{◌≡◌, ◌++◌, take}
use Rattle.std.specs.List.{flat_map}
use Rattle.ml_lines.specs.Lines.{next}
use Rattle.ml_refutation_text.specs.RefutationText.{numbers}
use Rattle.ml_refutation_text.proofs.writing.write_numbers.Given as goal

abbrev pub invariant-loop-n : goal.invariant-loop-n
invariant-loop-n l = l.out.items ≡ l.fn.out.items ++ flat_map next (numbers (take l.n-index l.ns))
