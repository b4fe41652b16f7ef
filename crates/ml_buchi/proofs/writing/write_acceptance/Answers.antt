use Rattle.std.proofs.Common.{[], ◌∷◌, ◌++◌, codes, ap, ◌∙◌}
use Rattle.std.proofs.lemmas.Result.{on_ok_weaker}
use Rattle.ml_lines.specs.Lines.{next, number}
use Rattle.ml_buchi.specs.WrittenText.{condition_text, parity_condition}
use Rattle.ml_buchi.proofs.WrittenLines.{condition_line}
use Rattle.ml_lists.proofs.WrittenParts.{both}
use Rattle.ml_buchi.proofs.writing.write_acceptance.Goals as goal

pub returns : goal.returns
returns c =
    let top = c.args.top in
    let condition = condition_text (parity_condition top) in
    let end_of_line = next condition ++ 10 ∷ [] in
    on_ok_weaker c.end_line.result
    (λ end.
    both c.args.out.now.items (codes "Acceptance:") (next (number top) ++ end_of_line) c.in_ok-write_word.ensures.ok
    (both c.write_word.new.out.items (next (number top)) end_of_line
    (c.in_ok-write_next_number.ensures.ok ∙ ap (λ n. c.write_word.new.out.items ++ next (number n)) c.from.ensures)
    (both c.write_next_number.new.out.items (next condition) (10 ∷ []) c.in_ok-write_condition.ensures end))
    ∙ ap (λ text. c.args.out.now.items ++ text) (condition_line top condition))
    c.end_line.ensures.ok
