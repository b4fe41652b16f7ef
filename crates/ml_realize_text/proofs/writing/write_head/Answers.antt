use Rattle.std.proofs.Common.{[], ◌∷◌, ◌++◌, codes, ◌∙◌, ap}
use Rattle.ml_ctl.specs.Canonical.{canonical_text}
use Rattle.ml_lines.specs.Lines.{line_text}
use Rattle.ml_realize_text.specs.RealizeText.{answer_word}
use Rattle.ml_realize_text.proofs.WrittenParts.{five_written}
use Rattle.ml_realize_text.proofs.writing.write_head.Goals as goal

pub returns : goal.returns
returns c =
    let t = c.args.task.now in
    let out = c.args.out.now.items in
    let o2 = c.write_answer.new.out.items in
    let o3 = c.write_listed.new.out.items in
    five_written (codes "mlsolver" ∷ codes "realize" ∷ codes "1" ∷ []) (codes "answer" ∷ answer_word c.args.answer ∷ [])
    (codes "inputs" ∷ t.inputs.items) (codes "outputs" ∷ t.outputs.items) (codes "formula" ∷ canonical_text t.formula ∷ [])
    out c.write_title.new.out.items o2 o3 c.write_listed-2.new.out.items c.write_formula.new.out.items
    c.in_ok-write_title.ensures c.in_ok-write_answer.ensures
    (c.in_ok-write_listed.ensures ∙ ap (λ names. o2 ++ line_text (codes "inputs" ∷ names)) c.deref.ensures.value)
    (c.in_ok-write_listed-2.ensures ∙ ap (λ names. o3 ++ line_text (codes "outputs" ∷ names)) c.deref-2.ensures.value)
    c.in_ok-write_formula.ensures
