use Rattle.std.proofs.Common.{◌≡◌, ◌≤◌, ◌+◌}
use Rattle.ml_spec.specs.Places.{column_at, line_at}
use Rattle.ml_spec.proofs.place.line_and_column.Given as goal

abbrev pub invariant-loop-byte : goal.invariant-loop-byte
invariant-loop-byte l =
    (l.line ≡ line_at l.front l.byte-index)
    × (l.column ≡ column_at l.front l.byte-index)
    × (l.line ≤ 1 + l.byte-index)
    × (l.column ≤ 1 + l.byte-index)
