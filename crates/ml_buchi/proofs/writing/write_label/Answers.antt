use Rattle.std.proofs.Common.{[], ◌∷◌, ◌++◌, ap, ◌∙◌, append_assoc}
use Rattle.ml_buchi.specs.WrittenText.{label, literal, next_literal}
use Rattle.ml_lists.proofs.WrittenParts.{parts_more}
use Rattle.ml_buchi.proofs.writing.write_label.Goals as goal

pub loop-prop-preserved : goal.loop-prop-preserved
loop-prop-preserved c =
    let l = c.loop-prop in
    parts_more (next_literal c.args.valuation) l.prop c.args.props l.out.items
    (c.args.out.now.items ++ label c.args.props c.args.valuation) c.write_literal-in-loop-prop.new.out.items
    c.loop-prop-test.true l.invariant
    (c.in_ok-write_literal-2.ensures ∙ ap (λ front. front ++ literal c.args.valuation l.prop) c.in_ok-push.ensures.items
    ∙ append_assoc l.out.items (38 ∷ []) (literal c.args.valuation l.prop))
