use Rattle.std.proofs.Common.{rules, ◌*◌, ◌^◌, ◌<◌, ◌∙◌, ◌&&◌, not, length, get_or, ap, false, arith}
use Rattle.std.proofs.lemmas.Result.{IfOk-weaker}
use Rattle.ml_lists.proofs.Member.{place-member}
use Rattle.ml_history.specs.private.TreeStep.{flagged}
use Rattle.ml_history.specs.declared.flat.offers.Offer.{Offer}
use Rattle.ml_history.proofs.definition.SmallHistories.{live-small}
use Rattle.ml_history.proofs.arrays.CutOffers.{marked_none, marked_more, source_down, full_told}
use Rattle.ml_history.proofs.flat.cutting.full_names.Goals as goal

pub overflow_mul-bound : goal.overflow_mul-bound
overflow_mul-bound c =
    let small : 2 * c.live-bound.result < 2 ^ 32 =
    omega (arith, c.live-bound.ensures, live-small c.args.history.now c.requires.history) in
    search (rules, small)

pub loop-offer-init : goal.loop-offer-init
loop-offer-init c =
    marked_none c.args.history.now c.args.best.now c.in_ok-standing.standing.items c.in_ok-ends.ends.items
    (omega (arith, c.in_ok-standing.ensures.count, c.live-bound.ensures))
    (omega (arith, c.in_ok-ends.ensures.count, c.live-bound.ensures))
    (λ y. ap (λ t. t y) c.in_ok-standing.ensures.flags) (λ y. ap (λ t. t y) c.in_ok-ends.ensures.flags)

pub mark_offer-requires-clause-source : goal.mark_offer-requires-clause-source
mark_offer-requires-clause-source c =
    let d : Offer = record { target = 0; source = 0; place = 0; accepting = false } in
    c.requires.sources (get_or c.args.best.now c.loop-offer.offer-index d)
    (place-member c.args.best.now c.loop-offer.offer-index d c.loop-offer-test.true)

pub mark_offer-requires-clause-standing : goal.mark_offer-requires-clause-standing
mark_offer-requires-clause-standing c = c.loop-offer.invariant.standing_count

pub mark_offer-requires-clause-ends : goal.mark_offer-requires-clause-ends
mark_offer-requires-clause-ends c = c.loop-offer.invariant.ends_count

pub mark_offer-requires-clause-down : goal.mark_offer-requires-clause-down
mark_offer-requires-clause-down c =
    let d : Offer = record { target = 0; source = 0; place = 0; accepting = false } in
    source_down c.args.history.now c.args.best.now c.loop-offer.offer-index d c.loop-offer.standing.items
    c.loop-offer.ends.items c.requires.history.history c.requires.sources c.requires.ways c.loop-offer-test.true
    c.loop-offer.invariant

pub loop-offer-preserved : goal.loop-offer-preserved
loop-offer-preserved c =
    let d : Offer = record { target = 0; source = 0; place = 0; accepting = false } in
    marked_more c.args.history.now c.args.best.now c.loop-offer.offer-index d c.loop-offer.standing.items
    c.loop-offer.ends.items c.mark_offer.new.standing.items c.mark_offer.new.ends.items
    c.loop-offer-test.true c.loop-offer.invariant c.mark_offer.ensures.standing_count c.mark_offer.ensures.ends_count
    c.mark_offer.ensures.standing c.mark_offer.ensures.ends

pub full_of-requires : goal.full_of-requires
full_of-requires c =
    omega (
      arith,
      ap length c.as_slice.ensures.value,
      ap length c.as_slice-2.ensures.value,
      c.loop-offer.invariant.standing_count,
      c.loop-offer.invariant.ends_count,
    )

pub returns-clause-count : goal.returns-clause-count
returns-clause-count c =
    IfOk-weaker c.full_of.result _ _
    (λ full n. n ∙ ap length c.as_slice.ensures.value ∙ c.loop-offer.invariant.standing_count)
    c.full_of.ensures.count

pub returns-clause-flags : goal.returns-clause-flags
returns-clause-flags c =
    IfOk-weaker c.full_of.result _ _
    (λ full told. full_told c.args.history.now c.args.best.now c.loop-offer.offer-index c.loop-offer.standing.items
    c.loop-offer.ends.items full.items (omega (arith, c.loop-offer-test.false)) c.loop-offer.invariant
    (λ y. told y ∙ (λ i. flagged (c.as_slice.ensures.value i) y && not (flagged (c.as_slice-2.ensures.value i) y))))
    c.full_of.ensures.flags
