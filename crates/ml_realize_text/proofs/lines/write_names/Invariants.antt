use Rattle.std.proofs.Common.{◌≡◌, ◌++◌, drop}
use Rattle.std.specs.List.{flat_map}
use Rattle.ml_lines.specs.Lines.{next}
use Rattle.ml_realize_text.proofs.lines.write_names.Given as goal

abbrev pub invariant-loop-name : goal.invariant-loop-name
invariant-loop-name l = l.out.items ++ flat_map next (drop l.name-index l.names) ≡ l.fn.out.items ++ flat_map next l.names
