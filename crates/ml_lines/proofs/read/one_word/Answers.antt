use Rattle.std.proofs.Common.{length, ap, arith}
use Rattle.ml_lines.specs.Reading.{is_blank}
use Rattle.ml_lines.proofs.Cuts.{some_part}
use Rattle.ml_lines.proofs.read.one_word.Goals as goal

pub returns-in_default-Some : goal.returns-in_default-Some
returns-in_default-Some c =
    let more = rw c.in_default-Some.is-1 at c.split_word.ensures.words in
    λ one. absurd (omega (arith, ap length more, some_part is_blank c.in_default-Some.field-0-1.now))
