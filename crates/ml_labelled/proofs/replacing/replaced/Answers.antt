use Rattle.std.proofs.Common.{sym, subst, ◌∙◌}
use Rattle.ml_labelled.proofs.ReplacedEdges.{IsReplaced, replaced_from}
use Rattle.ml_labelled.proofs.replacing.replaced.Goals as goal

pub new-requires : goal.new-requires
new-requires c =
    (replaced_from c.args.automaton c.into_parts-props.result.0.items c.len.result c.into_parts-props.result.1.items
    c.args.rows.items c.deref.result.now c.deref-2.result.now c.args.there.now c.args.back.now
    c.into_parts-props.ensures.parts c.into_parts-props.ensures.labelled (c.len.ensures ∙ c.into_parts-props.result.0.ok.0)
    c.deref.ensures.value
    c.deref-2.ensures.value (c.may_replace.ensures c.if-may_replace.true)).labelled

pub returns-then-may_replace : goal.returns-then-may_replace
returns-then-may_replace c =
    let now =
    replaced_from c.args.automaton c.into_parts-props.result.0.items c.len.result c.into_parts-props.result.1.items
    c.args.rows.items c.deref.result.now c.deref-2.result.now c.args.there.now c.args.back.now
    c.into_parts-props.ensures.parts c.into_parts-props.ensures.labelled (c.len.ensures ∙ c.into_parts-props.result.0.ok.0)
    c.deref.ensures.value
    c.deref-2.ensures.value (c.may_replace.ensures c.if-may_replace.true) in
    let all : IsReplaced c.args.automaton c.new.result = subst (IsReplaced c.args.automaton) (sym c.new.ensures) now in
    record { same = all.same; props = all.props; few = all.few }
