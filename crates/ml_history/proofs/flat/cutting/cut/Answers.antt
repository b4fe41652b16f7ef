use Rattle.std.proofs.Common.{◌∙◌, [], map, get_or, sym, subst, false, arith}
use Rattle.ml_lists.proofs.Member.{place-member}
use Rattle.ml_history.specs.private.TreeStep.{flagged}
use Rattle.ml_history.specs.declared.flat.offers.Offer.{Offer}
use Rattle.ml_history.specs.HistoryStep.{cut}
use Rattle.ml_history.specs.private.Arrays.{AreLaidOut}
use Rattle.ml_history.specs.private.Keys.{offered_by}
use Rattle.ml_history.proofs.arrays.CutOffers.{cut_more, cut_all}
use Rattle.ml_history.proofs.arrays.StackLayout.{laid_none, laid_read, laid_itself}
use Rattle.ml_history.proofs.flat.cutting.cut.Goals as goal

pub loop-offer-init : goal.loop-offer-init
loop-offer-init c =
    subst (λ ss. AreLaidOut ss c.in_ok-starts.starts.items c.in_ok-names.names.items [])
    (sym c.in_ok-states.ensures.items)
    (subst (λ bs. AreLaidOut [] bs c.in_ok-names.names.items []) (sym c.in_ok-starts.ensures.items)
    (subst (λ ns. AreLaidOut [] [] ns []) (sym c.in_ok-names.ensures.items) laid_none))

pub push_cut-requires-clause-source : goal.push_cut-requires-clause-source
push_cut-requires-clause-source c =
    let d : Offer = record { target = 0; source = 0; place = 0; accepting = false } in
    c.requires.sources (get_or c.args.best.now c.loop-offer.offer-index d)
    (place-member c.args.best.now c.loop-offer.offer-index d c.loop-offer-test.true)

pub loop-offer-preserved : goal.loop-offer-preserved
loop-offer-preserved c =
    let d : Offer = record { target = 0; source = 0; place = 0; accepting = false } in
    cut_more c.args.history.now (flagged c.args.full.now) c.args.best.now c.loop-offer.offer-index d
    c.loop-offer.states.items c.loop-offer.starts.items c.loop-offer.names.items _ _ _ c.len.result
    c.loop-offer-test.true c.loop-offer.invariant c.in_ok-push.ensures.items c.in_ok-push-2.ensures.items
    (omega (arith, c.len.ensures, c.loop-offer.names.ok.0)) c.in_ok-push_cut.ensures

pub of-requires : goal.of-requires
of-requires c =
    laid_itself c.loop-offer.states.items c.loop-offer.starts.items c.loop-offer.names.items
    (cut (map (offered_by c.args.history.now) c.args.best.now))
    (cut_all c.args.history.now (flagged c.args.full.now) c.args.best.now c.loop-offer.offer-index
    c.loop-offer.states.items c.loop-offer.starts.items c.loop-offer.names.items
    (omega (arith, c.loop-offer-test.false)) c.loop-offer.invariant c.requires.flags)

pub returns : goal.returns
returns c =
    c.of.ensures
    ∙ laid_read c.loop-offer.states.items c.loop-offer.starts.items c.loop-offer.names.items
    (cut (map (offered_by c.args.history.now) c.args.best.now))
    (cut_all c.args.history.now (flagged c.args.full.now) c.args.best.now c.loop-offer.offer-index
    c.loop-offer.states.items c.loop-offer.starts.items c.loop-offer.names.items
    (omega (arith, c.loop-offer-test.false)) c.loop-offer.invariant c.requires.flags)
