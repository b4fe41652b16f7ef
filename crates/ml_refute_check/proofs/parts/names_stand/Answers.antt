use Rattle.std.proofs.Common.{◌≡◌, ◌↔◌, ℕ, ◌<◌, ◌||◌, ◌++◌, ◌∙◌, Bool, List, true, false, All, IsTrue, ap, arith, drop, get_or, length, subst, take}
use Rattle.std.proofs.Math.Seq.{take-append_seam}
use Rattle.std.proofs.lemmas.List.{get_or_default}
use Rattle.ml_refutation.specs.declared.refutation.Item.{Item}
use Rattle.ml_trace.specs.Stack.{has}
use Rattle.ml_refute_check.proofs.Sources.{no_item}
use Rattle.ml_refute_check.proofs.NamesStand.{names_stand, stand_before}
use Rattle.ml_refute_check.proofs.parts.names_stand.Goals as goal

pub returns : goal.returns
returns c =
    let told =
    subst (λ flags. IsTrue c.all_set.result ↔ All (λ flag. flag ≡ true) flags) c.deref-2.ensures.value
    c.all_set.ensures in
    names_stand c.args.stacks.now c.args.live c.args.items.now c.loop-item.stand.items c.loop-item.item-index c.loop-item.invariant.long
    c.loop-item.invariant.flagged c.loop-item-test.false c.all_set.result told

pub returns-then-set-len : goal.returns-then-set-len
returns-then-set-len c =
    let item : Item = get_or c.args.items.now c.loop-item.item-index no_item in
    let is = get_or_default c.args.items.now c.loop-item.item-index no_item item c.loop-item-test.true in
    let old = c.loop-item.stand.items in
    let new = c.note.new.flags in
    let as_long : c.loop-item.stand.len ≡ length new =
    omega (arith, c.note.ensures.size, ap length c.deref_mut.ensures.value, c.loop-item.stand.ok.0) in
    let same : c.deref.result.now ≡ new =
    c.deref.ensures.value ∙ ap (λ n. take n (new ++ drop (length new) old)) as_long
    ∙ take-append_seam new (drop (length new) old) in
    stand_before c.args.stacks.now c.args.live c.args.items.now old new c.loop-item.item-index item c.at.result.now
    c.loop-item.invariant.flagged c.loop-item-test.true is
    c.at.ensures
    (subst (λ (xs : List Bool). (y : ℕ) → get_or new y false ≡ (get_or xs y false || has y c.at.result.now)) c.deref_mut.ensures.value c.note.ensures.flags)
    (subst (λ (xs : List Bool). (y : ℕ) → y < c.args.live → get_or xs y false ≡ true) same
    (λ y low. c.set_front-set.ensures.set y (omega (arith, low, c.if-set-len.true, c.len.ensures, c.loop-item.stand.ok.0, c.loop-item.invariant.long))))
