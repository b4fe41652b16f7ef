use Rattle.std.proofs.Common.{◌≡◌, ◌++◌}
use Rattle.ml_determinise.specs.Numbering.{rows_of}
use Rattle.ml_buchi.specs.WrittenText.{state_text}
use Rattle.ml_lists.proofs.WrittenParts.{rows_to}
use Rattle.ml_buchi.proofs.writing.write_states.Given as goal

abbrev pub invariant-loop-state : goal.invariant-loop-state
invariant-loop-state l = l.out.items ≡ l.fn.out.items ++ rows_to (state_text l.props) (rows_of l.rows) l.state
