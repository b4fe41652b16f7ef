use Rattle.std.proofs.Common.{◌≡◌, ◌≤◌, [], length, ap, sym, ◌∙◌, arith}
use Rattle.ml_answers.specs.private.Words.{words_left}
use Rattle.ml_answers.proofs.Scanning.{scanned_end}
use Rattle.ml_answers.proofs.Splitting.{left_some}
use Rattle.ml_answers.proofs.names.mark_items.Goals as goal

pub returns-else-are_none : goal.returns-else-are_none
returns-else-are_none c = λ S agrees over none.
    let past : length c.args.items.now ≤ c.loop-number.number =
    omega (arith, c.loop-number-test.false, c.loop-number.auto.number-end) in
    let scanned =
    scanned_end c.args.items.now c.args.among.now c.loop-number.number c.loop-number.marks.items (words_left c.args.needed)
    (words_left c.args.perhaps) (words_left c.loop-number.needed) (words_left c.loop-number.perhaps)
    c.loop-number.invariant past S agrees in
    let words = left_some c.loop-number.perhaps (sym c.are_none.ensures ∙ c.if-are_none.false) in
    let some = words.2 in
    let empty : words_left c.loop-number.perhaps ≡ [] = sym (ap (λ s. s.unsettled) scanned) ∙ none in
    absurd cc
