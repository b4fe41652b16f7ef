use Rattle.std.proofs.Common.{◌≡◌, take}
use Rattle.std.specs.List.{count_by}
use Rattle.ml_lines.specs.Reading.{is_line_end}
use Rattle.ml_answers.proofs.cut.line_count.Given as goal

abbrev pub invariant-loop-byte : goal.invariant-loop-byte
invariant-loop-byte l = l.count ≡ count_by is_line_end (take l.byte-index l.text)
