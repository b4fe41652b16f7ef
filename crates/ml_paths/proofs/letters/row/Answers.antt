use Rattle.std.proofs.Common.{rules, ◌≡◌, ◌+◌, ◌∙◌, Some, ap, length, slice_get, sym, subst}
use Rattle.std.proofs.lemmas.Option.{slice_get-get_or}
use Rattle.ml_word_automaton.specs.Letters.{AreThoseIn}
use Rattle.ml_paths.specs.private.Letters.{IsRowOf}
use Rattle.ml_paths.proofs.Grown.{row_more}
use Rattle.ml_paths.proofs.letters.row.Goals as goal

pub loop-label-preserved : goal.loop-label-preserved
loop-label-preserved c =
    let a = c.args.automaton.now in
    let keys = c.args.labels.now.keys in
    let read = c.as_slice-label-items in
    let k = c.loop-label.label-index in
    let key = c.label-item.result in
    let stands : slice_get keys k ≡ Some key =
    ap (λ ks. slice_get ks k) (sym read.ensures.keys)
    ∙ slice_get-get_or read.result.now k key c.loop-label-test.true
    ∙ ap Some (sym c.label-item.is) in
    subst (IsRowOf a keys (k + 1)) (sym c.in_ok-push.ensures.items)
    (row_more a keys k c.loop-label.row.items key c.in_ok-letter_at.field-0 c.loop-label.invariant stands
    (λ l is. c.in_ok-letter_at.ensures l (subst (AreThoseIn a.graph l) (sym c.props.ensures) is)))

pub returns : goal.returns
returns c =
    let a = c.args.automaton.now in
    let keys = c.args.labels.now.keys in
    let all : c.loop-label.label-index ≡ length c.as_slice-label-items.result.now = search rules in
    subst (λ k. IsRowOf a keys k c.loop-label.row.items) (all ∙ ap length c.as_slice-label-items.ensures.keys)
    c.loop-label.invariant
