use Rattle.std.proofs.Common.{◌≡◌, ◌++◌, All, take, codes}
use Rattle.std.specs.List.{flat_map}
use Rattle.ml_base.specs.Name.{IsName}
use Rattle.ml_lines.specs.Lines.{number, next}
use Rattle.ml_kripke.proofs.write.write_state.Given as goal

abbrev pub invariant-loop-label : goal.invariant-loop-label
invariant-loop-label l =
    (l.out.items ≡ l.fn.out.items ++ (codes "state" ++ (next (number l.state) ++ flat_map next (take l.label-index l.labels))))
    × All IsName (take l.label-index l.labels)
