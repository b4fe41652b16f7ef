use Rattle.std.proofs.Common.{◌≡◌, ◌++◌}
use Rattle.ml_lines.specs.Lines.{line_text}
use Rattle.ml_hoa.specs.WrittenLines.{state_line}
use Rattle.ml_buchi.specs.WrittenText.{move_text}
use Rattle.ml_lists.proofs.WrittenParts.{rows_to}
use Rattle.ml_buchi.proofs.writing.write_state.Given as goal

abbrev pub invariant-loop-valuation : goal.invariant-loop-valuation
invariant-loop-valuation l =
    l.out.items
    ≡ (l.fn.out.items ++ line_text (state_line l.state)) ++ rows_to (move_text l.props) l.moves l.valuation
