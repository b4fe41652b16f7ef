-- What is written of the propositions so far, and what is left of the others.
use Rattle.std.proofs.Common.{◌≡◌, ◌-◌, ◌++◌}
use Rattle.std.specs.List.{flat_map, range_with_len}
use Rattle.ml_buchi.specs.WrittenText.{label, next_literal}
use Rattle.ml_buchi.proofs.writing.write_label.Given as goal

abbrev pub invariant-loop-prop : goal.invariant-loop-prop
invariant-loop-prop l =
    l.out.items ++ flat_map (next_literal l.valuation) (range_with_len l.prop (l.props - l.prop))
    ≡ l.fn.out.items ++ label l.props l.valuation
