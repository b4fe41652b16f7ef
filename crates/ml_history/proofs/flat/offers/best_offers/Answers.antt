use Rattle.std.proofs.Common.{arith, false, subst, sym}
use Rattle.ml_history.proofs.arrays.BestOffers.{BestSoFar, best_first, best_next, best_last}
use Rattle.ml_history.proofs.flat.offers.best_offers.Goals as goal

pub loop-transition-init : goal.loop-transition-init
loop-transition-init c = subst (BestSoFar c.args.history.now c.args.places.now c.args.letter.now 0)
    (sym c.new-best.ensures.items) (best_first c.args.history.now c.args.places.now c.args.letter.now)

pub loop-transition-preserved : goal.loop-transition-preserved
loop-transition-preserved c =
    best_next c.args.history.now c.args.places.now c.args.letter.now c.loop-transition.transition-index
    c.loop-transition.best.items _ (record { from = 0; to = 0; accepting = false }) c.offer_along.result
    c.requires.places c.requires.letter c.loop-transition-test.true c.loop-transition.invariant
    c.offer_along.ensures.some c.offer_along.ensures.none c.in_ok-put_some.ensures

pub returns-clause-taken : goal.returns-clause-taken
returns-clause-taken c =
    best_last c.args.history.now c.args.places.now c.args.letter.now c.loop-transition.transition-index
    c.loop-transition.best.items (omega (arith, c.loop-transition-test.false)) c.loop-transition.invariant

pub returns-clause-sources : goal.returns-clause-sources
returns-clause-sources c = λ o m. (c.loop-transition.invariant.valid o m).has_source
