use Rattle.std.proofs.Common.{[], ◌∷◌, ◌++◌, ap, ◌∙◌}
use Rattle.std.specs.List.{flat_map}
use Rattle.std.proofs.lemmas.Result.{on_ok_weaker}
use Rattle.ml_lines.specs.Lines.{next, number}
use Rattle.ml_hoa.specs.WrittenLines.{bracketed}
use Rattle.ml_labelled.specs.LabelledText.{label, set_words}
use Rattle.ml_lines.proofs.Words.{line_of}
use Rattle.ml_lists.proofs.WrittenParts.{both}
use Rattle.ml_labelled.proofs.writing.write_edge.Goals as goal

pub returns : goal.returns
returns c =
    let e = c.args.edge.now in
    let words = set_words e.accepting in
    let front = bracketed (label e.cube.items) in
    let end_of_line = flat_map next words ++ 10 ∷ [] in
    on_ok_weaker c.end_line.result
    (λ end.
    both c.args.out.now.items front (next (number e.to) ++ end_of_line)
    (c.in_ok-write_bracketed.ensures ∙ ap (λ cube. c.args.out.now.items ++ bracketed (label cube)) c.deref.ensures.value)
    (both c.write_bracketed.new.out.items (next (number e.to)) end_of_line
    (c.in_ok-write_next_number.ensures.ok ∙ ap (λ n. c.write_bracketed.new.out.items ++ next (number n)) c.from.ensures)
    (both c.write_next_number.new.out.items (flat_map next words) (10 ∷ []) c.in_ok-write_set.ensures end))
    ∙ ap (λ text. c.args.out.now.items ++ text) (line_of front (number e.to) words))
    c.end_line.ensures.ok
