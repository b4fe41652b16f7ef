use Rattle.std.proofs.Common.{◌≡◌, ◌++◌, map, take}
use Rattle.std.specs.List.{flat_map}
use Rattle.ml_lines.specs.Lines.{next}
use Rattle.ml_hoa.specs.WrittenLines.{quoted}
use Rattle.ml_hoa.proofs.writing.write_names.Given as goal

abbrev pub invariant-loop-prop : goal.invariant-loop-prop
invariant-loop-prop g l =
    l.out.items ≡ l.fn.out.items ++ flat_map next (map quoted (map g.N.PropName.name (take l.prop-index l.props)))
