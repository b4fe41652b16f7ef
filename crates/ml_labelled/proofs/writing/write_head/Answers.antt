use Rattle.std.proofs.Common.{ℕ, List, [], ◌∷◌, ◌++◌, codes, map, sym, ap, ◌∙◌}
use Rattle.std.proofs.lemmas.Grind.{flat_map-append}
use Rattle.std.proofs.lemmas.List.{map-id}
use Rattle.std.proofs.lemmas.Result.{on_ok_weaker}
use Rattle.ml_lines.specs.Lines.{Line, line_text, text_of}
use Rattle.ml_lists.proofs.WrittenParts.{both}
use Rattle.ml_hoa.specs.WrittenLines.{body_line, opening_lines}
use Rattle.ml_labelled.proofs.writing.write_head.Goals as goal

pub returns : goal.returns
returns c =
    let states = c.args.states in
    let opening = text_of (opening_lines states (map (λ (name : List ℕ). name) c.args.props.now)) in
    let rest : List Line =
    (codes "acc-name:" ∷ codes "Buchi" ∷ [])
    ∷ (codes "Acceptance:" ∷ codes "1" ∷ codes "Inf(0)" ∷ [])
    ∷ (codes "properties:" ∷ codes "trans-labels" ∷ codes "explicit-labels" ∷ codes "trans-acc" ∷ [])
    ∷ body_line
    ∷ [] in
    on_ok_weaker c.write_word.result
    (λ end.
    both c.args.out.now.items opening (text_of rest) c.in_ok-write_opening.ensures end
    ∙ ap (λ props. c.args.out.now.items ++ (text_of (opening_lines states props) ++ text_of rest)) (map-id c.args.props.now)
    ∙ ap (λ text. c.args.out.now.items ++ text) (sym (flat_map-append line_text (opening_lines states c.args.props.now) rest)))
    c.write_word.ensures.ok
