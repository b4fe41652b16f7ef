use Rattle.std.proofs.Common.{◌≡◌, ◌+◌, Some, [], length, sym, ap, ◌∙◌, arith}
use Rattle.ml_lines.proofs.Cuts.{slice_end}
use Rattle.ml_answers.specs.Texts.{line_from}
use Rattle.ml_answers.specs.Texts as texts
use Rattle.ml_answers.proofs.FirstLines.{found_here, found_on, found_within, in_text, no_line, none_in_line}
use Rattle.ml_answers.proofs.cut.first_line.Goals as goal

pub returns-then-is_same-clause-found : goal.returns-then-is_same-clause-found
returns-then-is_same-clause-found c =
    let rest = c.loop-end.rest.now in
    sym (c.loop-end.invariant.1
    ∙ found_here c.args.line.now rest c.loop-end.from c.in-Some.end (sym c.in-Some.ensures)
    (sym c.is_same.ensures ∙ c.if-is_same.true))

pub returns-then-is_same-clause-within : goal.returns-then-is_same-clause-within
returns-then-is_same-clause-within c =
    let rest = c.loop-end.rest.now in
    let found : texts.first_line c.args.line.now c.args.text.now ≡ Some c.loop-end.from =
    c.loop-end.invariant.1
    ∙ found_here c.args.line.now rest c.loop-end.from c.in-Some.end (sym c.in-Some.ensures)
    (sym c.is_same.ensures ∙ c.if-is_same.true) in
    let low = found_within c.args.line.now c.args.text.now 0 [] c.loop-end.from found in
    omega (arith, low)

pub returns-in-None-clause-found : goal.returns-in-None-clause-found
returns-in-None-clause-found c =
    let rest = c.loop-end.rest.now in
    sym (c.loop-end.invariant.1
    ∙ no_line c.args.line.now rest c.loop-end.from [] (none_in_line rest (sym c.in-None.ensures)))

pub loop-end-preserved : goal.loop-end-preserved
loop-end-preserved c =
    let rest = c.loop-end.rest.now in
    let end = c.in-Some.end in
    let some = sym c.in-Some.ensures in
    let cut = slice_end rest (end + 1) in
    let size = in_text c.args.line.now rest c.loop-end.from end some in (
      omega (arith, c.loop-end.invariant.0, size, ap length cut),
      c.loop-end.invariant.1
          ∙ found_on c.args.line.now rest c.loop-end.from end some (sym c.is_same.ensures ∙ c.if-is_same.false)
          ∙ ap (line_from c.args.line.now (c.loop-end.from + (end + 1)) []) cut,
    )
