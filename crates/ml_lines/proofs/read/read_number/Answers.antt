use Rattle.std.proofs.Common.{◌≡◌, ◌<◌, length, get_or, arith}
use Rattle.std.proofs.lemmas.Bool.Decides.{nat_tests}
use Rattle.ml_lines.proofs.Numbers.{no_number_empty, no_number_zero, no_number_long, no_number_byte, spelt}
use Rattle.ml_lines.proofs.read.read_number.Goals as goal
use Rattle.ml_lines.proofs.read.read_number.Goals.{else-word-gt1-via-then-word-gt1+else-word-eq48, else-word-gt1-via-else-word-gt1}

pub returns-then-is_empty : goal.returns-then-is_empty
returns-then-is_empty c =
    let none : length c.args.word.now ≡ 0 = grind (arith, nat_tests) in no_number_empty c.args.word.now none

pub returns-then-word-eq48 : goal.returns-then-word-eq48
returns-then-word-eq48 c = no_number_zero c.args.word.now c.if-word-eq48.true c.if-word-gt1.true

pub returns-then-word-gt-MOST_DIGITS : goal.returns-then-word-gt-MOST_DIGITS
returns-then-word-gt-MOST_DIGITS c = no_number_long c.args.word.now (omega arith)

pub returns-in-None : goal.returns-in-None
returns-in-None c = no_number_byte c.args.word.now c.in-None.ensures

pub returns-in-Some : goal.returns-in-Some
returns-in-Some c =
    let word = c.args.word.now in
    let some : 0 < length word = grind (arith, nat_tests) in
    let no_zero : get_or word 0 0 ≡ 48 → length word ≡ 1 =
    elim c.else-word-gt1.branch [
      | else-word-gt1-via-then-word-gt1+else-word-eq48 w ↦ λ is. absurd (w.if-word-eq48.false is)
      | else-word-gt1-via-else-word-gt1 w ↦ λ is. omega arith
    ] in
    spelt word c.in-Some.n c.fitting.result some no_zero c.in-Some.ensures c.fitting.ensures
