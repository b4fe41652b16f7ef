use Rattle.std.proofs.Common.{[], ◌∷◌, ◌++◌, List, ℕ, map, sym, ap, ◌∙◌}
use Rattle.std.proofs.lemmas.Grind.{flat_map-append}
use Rattle.std.proofs.lemmas.List.{map-id}
use Rattle.std.proofs.lemmas.Result.{on_ok_weaker}
use Rattle.ml_hoa.specs.WrittenLines.{body_line, opening_lines}
use Rattle.ml_lines.specs.Lines.{line_text, text_of}
use Rattle.ml_buchi.specs.WrittenText.{acceptance_line}
use Rattle.ml_lists.proofs.WrittenParts.{both}
use Rattle.ml_buchi.proofs.writing.write_head.Goals as goal

pub returns : goal.returns
returns c =
    let states = c.args.states in
    let acceptance = acceptance_line c.args.top in
    let opening = text_of (opening_lines states (map (λ (name : List ℕ). name) c.args.props.now)) in
    on_ok_weaker c.write_body_line.result
    (λ end.
    both c.args.out.now.items opening (line_text acceptance ++ line_text body_line) c.in_ok-write_opening.ensures
    (both c.write_opening.new.out.items (line_text acceptance) (line_text body_line) c.in_ok-write_acceptance.ensures end)
    ∙ ap (λ props. c.args.out.now.items ++ (text_of (opening_lines states props) ++ (line_text acceptance ++ line_text body_line)))
    (map-id c.args.props.now)
    ∙ ap (λ text. c.args.out.now.items ++ text)
    (sym (flat_map-append line_text (opening_lines states c.args.props.now) (acceptance ∷ body_line ∷ []))))
    c.write_body_line.ensures
