-- No state is out of range.
use Rattle.std.proofs.Common.{Err, ap, sym, ◌∙◌}
use Rattle.ml_paths.proofs.runs.built.Goals as goal

pub unreachable-requires-in-Err-StateOutOfRange : goal.unreachable-requires-in-Err-StateOutOfRange
unreachable-requires-in-Err-StateOutOfRange c =
    let bad =
    (c.in-Err-StateOutOfRange.ensures.out_of_range c.in-Err-StateOutOfRange.field-0-0).0
    (ap Err c.in-Err-StateOutOfRange.field-0-is) in
    let wrong = sym c.requires.inside ∙ bad.1 in
    cc
