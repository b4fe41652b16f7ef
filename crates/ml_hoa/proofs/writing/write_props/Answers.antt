use Rattle.std.proofs.Common.{[], ◌∷◌, ◌++◌, codes, length, map, ap, ◌∙◌}
use Rattle.std.specs.List.{flat_map}
use Rattle.std.proofs.lemmas.Result.{on_ok_weaker}
use Rattle.ml_lines.specs.Lines.{next, number}
use Rattle.ml_lines.proofs.Words.{line_of}
use Rattle.ml_lists.proofs.WrittenParts.{both}
use Rattle.ml_hoa.specs.WrittenLines.{quoted}
use Rattle.ml_hoa.proofs.writing.write_props.Goals as goal

pub returns : goal.returns
returns g c =
    let names = map quoted (map g.N.PropName.name c.args.props.now) in
    let n = length c.args.props.now in
    let end_of_line = flat_map next names ++ 10 ∷ [] in
    on_ok_weaker c.end_line.result
    (λ end.
    both c.args.out.now.items (codes "AP:") (next (number n) ++ end_of_line) c.in_ok-write_word.ensures.ok
    (both c.write_word.new.out.items (next (number n)) end_of_line c.in_ok-write_next_number.ensures.ok
    (both c.write_next_number.new.out.items (flat_map next names) (10 ∷ []) c.in_ok-write_names.ensures end))
    ∙ ap (λ text. c.args.out.now.items ++ text) (line_of (codes "AP:") (number n) names))
    c.end_line.ensures.ok
