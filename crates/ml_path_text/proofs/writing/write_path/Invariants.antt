use Rattle.std.proofs.Common.{◌≡◌, ◌++◌, codes, map, take}
use Rattle.std.specs.List.{flat_map}
use Rattle.ml_lines.specs.Lines.{next, number}
use Rattle.ml_path_text.proofs.writing.write_path.Given as goal

abbrev pub invariant-loop-state : goal.invariant-loop-state
invariant-loop-state l =
    l.out.items ≡ l.fn.out.items ++ (codes "path" ++ flat_map next (map number (take l.state-index l.states)))
