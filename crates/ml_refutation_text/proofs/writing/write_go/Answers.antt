use Rattle.std.proofs.Common.{◌++◌, ◌∷◌, codes, ap, ◌∙◌}
use Rattle.std.proofs.lemmas.Result.{on_ok_weaker}
use Rattle.std.specs.List.{flat_map}
use Rattle.ml_lines.specs.Lines.{number, next}
use Rattle.ml_refutation_text.specs.RefutationText.{mark_words}
use Rattle.ml_refutation_text.proofs.WrittenLines.{line_written, four_parts}
use Rattle.ml_refutation_text.proofs.writing.write_go.Goals as goal

pub returns-clause-text : goal.returns-clause-text
returns-clause-text c =
    let out = c.args.out.now.items in
    let words = mark_words c.args.mark in
    let diamond = number c.args.diamond in
    let entry = number c.args.entry in
    on_ok_weaker c.end_line.result
    (line_written out c.write_mark.new.out.items c.end_line.new.out.items (codes "go") (diamond ∷ entry ∷ words)
    (c.in_ok-write_mark.ensures.text
    ∙ four_parts out _ _ _ (codes "go") (next diamond) (next entry) (flat_map next words) c.in_ok-write_word.ensures.ok
    (c.in_ok-write_next_number.ensures.ok ∙ ap (λ n. c.write_word.new.out.items ++ next (number n)) c.from.ensures)
    (c.in_ok-write_next_number-2.ensures.ok
    ∙ ap (λ n. c.write_next_number.new.out.items ++ next (number n)) c.from-2.ensures)))
    c.end_line.ensures.ok
