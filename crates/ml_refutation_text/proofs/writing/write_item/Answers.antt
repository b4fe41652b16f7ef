use Rattle.std.proofs.Common.{◌++◌, ◌∷◌, codes, ap, ◌∙◌}
use Rattle.std.proofs.lemmas.Result.{on_ok_weaker}
use Rattle.std.specs.List.{flat_map}
use Rattle.ml_lines.specs.Lines.{number, next}
use Rattle.ml_refutation_text.specs.RefutationText.{guess_word}
use Rattle.ml_refutation_text.specs.private.Filings.{writing_of, item_in}
use Rattle.ml_refutation_text.proofs.WrittenLines.{line_written, four_parts}
use Rattle.ml_refutation_text.proofs.writing.write_item.Goals as goal

pub returns-clause-text : goal.returns-clause-text
returns-clause-text c =
    let out = c.args.out.now.items in
    let words = (writing_of c.args.filing.now).words (item_in c.args.filing.now c.args.item.now).stack in
    let node = number c.args.item.now.node in
    let guess = guess_word c.args.item.now.odd in
    on_ok_weaker c.end_line.result
    (line_written out c.write_stack.new.out.items c.end_line.new.out.items (codes "item") (node ∷ guess ∷ words)
    (c.in_ok-write_stack.ensures.text
    ∙ four_parts out _ _ _ (codes "item") (next node) (next guess) (flat_map next words) c.in_ok-write_word.ensures.ok
    (c.in_ok-write_next_number.ensures.ok ∙ ap (λ n. c.write_word.new.out.items ++ next (number n)) c.from.ensures)
    c.in_ok-write_guess.ensures.text))
    c.end_line.ensures.ok
