use Rattle.std.proofs.Common.{◌++◌, ap, ◌∙◌, append_assoc}
use Rattle.std.proofs.lemmas.Result.{on_ok_weaker}
use Rattle.std.specs.List.{flat_map}
use Rattle.ml_lines.specs.Lines.{next}
use Rattle.ml_refutation_text.specs.RefutationText.{numbers}
use Rattle.ml_refutation_text.proofs.WrittenLines.{line_written}
use Rattle.ml_refutation_text.proofs.writing.write_listed.Goals as goal

pub returns-clause-text : goal.returns-clause-text
returns-clause-text c =
    let out = c.args.out.now.items in
    let word = c.args.word.now in
    let words = flat_map next (numbers c.args.ns.now) in
    on_ok_weaker c.end_line.result
    (line_written out c.write_numbers.new.out.items c.end_line.new.out.items word (numbers c.args.ns.now)
    (c.in_ok-write_numbers.ensures.text ∙ ap (λ text. text ++ words) c.in_ok-write_word.ensures.ok ∙ append_assoc out word words))
    c.end_line.ensures.ok
