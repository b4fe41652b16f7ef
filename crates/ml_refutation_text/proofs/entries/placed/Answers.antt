use Rattle.std.proofs.Common.{◌≤◌, ◌∷◌, [], codes, length, ap, sym, ◌∙◌, arith}
use Rattle.ml_lines.specs.Reading.{words_of}
use Rattle.ml_refutation_text.proofs.EntriesRead.{placed_wrong, placed_outside}
use Rattle.ml_refutation_text.specs.RefutationText.{entry_line}
use Rattle.ml_refutation_text.proofs.entries.placed.Goals as goal

pub returns-then-n-number-clause-refused : goal.returns-then-n-number-clause-refused
returns-then-n-number-clause-refused c = λ names wanted qs ks es many here.
    let first = c.in-Some-read_number.ensures in
    let second = c.in-Some-read_number-2.ensures in
    placed_wrong names wanted es qs ks (words_of c.args.line.now) c.in-Some-read_number.n c.in-Some-read_number-2.place
    (c.in-Some.ensures.1 ∙ (λ i. codes "entry" ∷ first.0 i ∷ second.0 i ∷ [])) first.1 second.1 (λ same. c.if-n-number.true (same ∙ here))

pub returns-then-from-size-clause-refused : goal.returns-then-from-size-clause-refused
returns-then-from-size-clause-refused c = λ names wanted qs ks es many here.
    let first = c.in-Some-read_number.ensures in
    let second = c.in-Some-read_number-2.ensures in
    let outside : length qs ≤ c.in-Some-read_number-2.place = omega (arith, c.if-from-size.true, c.from.ensures, many) in
    placed_outside names wanted es qs ks (words_of c.args.line.now) c.in-Some-read_number.n c.in-Some-read_number-2.place
    (c.in-Some.ensures.1 ∙ (λ i. codes "entry" ∷ first.0 i ∷ second.0 i ∷ [])) first.1 second.1 (c.if-n-number.false ∙ sym here) outside

pub returns-else-from-size-clause-read : goal.returns-else-from-size-clause-read
returns-else-from-size-clause-read c =
    let first = c.in-Some-read_number.ensures in
    let second = c.in-Some-read_number-2.ensures in
    let s = c.in-Some-read_number-2.place in record {
      fits = second.1;
      is_line =
          c.in-Some.ensures.1 ∙ (λ i. codes "entry" ∷ first.0 i ∷ second.0 i ∷ [])
          ∙ ap (λ n. entry_line n s) c.if-n-number.false;
      there = omega (arith, c.if-from-size.false, c.from.ensures);
    }
