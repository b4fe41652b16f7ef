use Rattle.std.proofs.Common.{◌∷◌, ◌<◌, codes, length, ap, sym, subst, ◌∙◌, arith}
use Rattle.std.proofs.lemmas.List.{length-map}
use Rattle.ml_lines.specs.Lines.{number}
use Rattle.ml_lines.specs.Reading.{words_of}
use Rattle.ml_refutation_text.specs.private.ItemReads.{AreNames}
use Rattle.ml_refutation_text.proofs.ReadWords.{some_word}
use Rattle.ml_refutation_text.proofs.RowLines.{stack_no_numbers, stack_no_names}
use Rattle.ml_refutation_text.proofs.rows.stack_of.Goals as goal

pub returns-then-are_names-clause-read : goal.returns-then-are_names-clause-read
returns-then-are_names-clause-read c =
    let read = rw c.in-Some-2.is at c.in_ok-stack-in-Some.ensures in
    let names = subst (AreNames c.args.names) c.deref.ensures.value (c.are_names.ensures.yes c.if-are_names.true) in (
      c.in-Some.ensures.1 ∙ ap (λ ws. codes "stack" ∷ ws) read.0,
      record {
        some = omega (arith, some_word c.in-Some.behind.now, ap length read.0, length-map c.in-Some-2.stack.items number);
        ascends = names.0;
        below = names.1;
      },
    )

pub returns-else-are_names-clause-refused : goal.returns-else-are_names-clause-refused
returns-else-are_names-clause-refused c =
    let read = rw c.in-Some-2.is at c.in_ok-stack-in-Some.ensures in
    let ns = c.in-Some-2.stack.items in
    let some : 0 < length ns = omega (arith, some_word c.in-Some.behind.now, ap length read.0, length-map ns number) in
    λ qs rows size left.
    stack_no_names c.args.names qs size rows (words_of c.args.line.now) ns (c.in-Some.ensures.1 ∙ ap (λ ws. codes "stack" ∷ ws) read.0)
    some read.1 (λ names. c.are_names.ensures.otherwise c.if-are_names.false (subst (AreNames c.args.names) (sym c.deref.ensures.value) names))

pub returns-in-None-2-clause-refused : goal.returns-in-None-2-clause-refused
returns-in-None-2-clause-refused c =
    let bad = rw c.in-None-2.is at c.in_ok-stack-in-Some.ensures in
    λ qs rows size left.
    stack_no_numbers c.args.names qs size rows (words_of c.args.line.now) (words_of c.in-Some.behind.now) c.in-Some.ensures.1
    (some_word c.in-Some.behind.now) c.in-Some.ensures.0 bad
