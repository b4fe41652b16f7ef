use Rattle.std.proofs.Common.{[], ◌∷◌, ◌++◌, codes, length, map, ap, sym, ◌∙◌}
use Rattle.std.proofs.lemmas.Result.{on_ok_weaker}
use Rattle.std.proofs.lemmas.List.{append-nil, length-map}
use Rattle.ml_lines.specs.Lines.{line_text, number}
use Rattle.ml_lists.proofs.WrittenParts.{both}
use Rattle.ml_hoa.specs.WrittenLines.{quoted}
use Rattle.ml_hoa.proofs.writing.write_opening.Goals as goal

pub returns : goal.returns
returns g c =
    let names = map g.N.PropName.name c.args.props.now in
    let version = line_text (codes "HOA:" ∷ codes "v1" ∷ []) in
    let states = line_text (codes "States:" ∷ number c.args.states ∷ []) in
    let start = line_text (codes "Start:" ∷ number 0 ∷ []) in
    let props = line_text (codes "AP:" ∷ number (length names) ∷ map quoted names) in
    on_ok_weaker c.write_props.result
    (λ end.
    both c.args.out.now.items version (states ++ (start ++ (props ++ []))) c.in_ok-write_line.ensures
    (both c.write_line.new.out.items states (start ++ (props ++ [])) c.in_ok-write_numbered.ensures
    (both c.write_numbered.new.out.items start (props ++ []) c.in_ok-write_numbered-2.ensures
    (end
    ∙ ap (λ n. c.write_numbered-2.new.out.items ++ line_text (codes "AP:" ∷ number n ∷ map quoted names))
    (sym (length-map c.args.props.now g.N.PropName.name))
    ∙ ap (λ text. c.write_numbered-2.new.out.items ++ text) (sym (append-nil props))))))
    c.write_props.ensures
