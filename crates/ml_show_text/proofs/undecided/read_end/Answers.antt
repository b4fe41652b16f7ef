use Rattle.std.proofs.Common.{codes, inl, refl, ap}
use Rattle.std.proofs.lemmas.Result.{IfErr-weaker, on_ok_weaker}
use Rattle.ml_lines.specs.Faults.{IsFault}
use Rattle.ml_lines.specs.Reading.{words_of}
use Rattle.ml_realize_text.proofs.FixedWords.{other_word, same_word}
use Rattle.ml_show_text.specs.UndecidedBodies.{AtEnd, AtNothing, body}
use Rattle.ml_show_text.specs.declared.cause_rule.CauseRule.TheVariants.{OfKind}
use Rattle.ml_show_text.proofs.CauseBodies.{bad_behind, bad_here, good_line}
use Rattle.ml_show_text.proofs.CauseWords.{not_end}
use Rattle.ml_show_text.proofs.undecided.read_end.Goals as goal

pub returns-then-eq-clause-read : goal.returns-then-eq-clause-read
returns-then-eq-clause-read c =
    let line = c.in-Some.line.now in
    let is = same_word line c.as_slice.result.now (codes "end") c.if-eq.ensures c.as_slice.ensures in
    on_ok_weaker c.read_nothing.result
    (good_line AtEnd c.args.text.now (words_of line) c.in-Some.rest.now c.in-Some.ensures.lines c.in-Some.ensures.left
    (ap words_of is, tt))
    c.read_nothing.ensures.read

pub returns-then-eq-clause-refused : goal.returns-then-eq-clause-refused
returns-then-eq-clause-refused c =
    let line = c.in-Some.line.now in
    let rest = c.in-Some.rest.now in
    let is = same_word line c.as_slice.result.now (codes "end") c.if-eq.ensures c.as_slice.ensures in
    IfErr-weaker c.read_nothing.result (IsFault body 8 AtNothing rest) (IsFault body 7 AtEnd c.args.text.now)
    (λ fault bad.
    bad_behind AtEnd c.args.text.now (words_of line) rest c.in-Some.ensures.lines c.in-Some.ensures.left (ap words_of is, tt) 7
    fault bad)
    c.read_nothing.ensures.refused

pub returns-else-eq-clause-refused : goal.returns-else-eq-clause-refused
returns-else-eq-clause-refused c =
    let line = c.in-Some.line.now in
    bad_here AtEnd c.args.text.now (words_of line) c.in-Some.rest.now c.in-Some.ensures.lines 7 OfKind c.fault.result
    c.fault.ensures.line c.fault.ensures.rule
    (λ left. inl (refl, not_end line (other_word line c.as_slice.result.now (codes "end") c.if-eq.ensures c.as_slice.ensures)))
