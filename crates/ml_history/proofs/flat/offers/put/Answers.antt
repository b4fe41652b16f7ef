use Rattle.std.proofs.Common.{◌≡◌, ◌∙◌, ◌-◌, Some, length, slice_get, ap, sym, arith}
use Rattle.ml_history.proofs.arrays.BestOffers.{put_other, put_better, put_worse}
use Rattle.ml_history.proofs.flat.offers.put.Goals as goal

pub returns-in_ok-push-2 : goal.returns-in_ok-push-2
returns-in_ok-push-2 c =
    let bs = c.args.best.now.items in
    let last : slice_get bs (length bs - 1) ≡ Some c.in-Some.last =
    ap (λ es. slice_get es (length es - 1)) (sym c.deref.ensures.value) ∙ sym c.last.ensures.value
    ∙ sym c.copied.ensures ∙ c.in-Some.is in
    c.in_ok-push-2.ensures.items ∙ put_other c.args.offer c.in-Some.last bs last c.if-last-offer.true

pub returns-then-wins : goal.returns-then-wins
returns-then-wins c =
    let bs = c.args.best.now.items in
    let last : slice_get bs (length bs - 1) ≡ Some c.in-Some.last =
    ap (λ es. slice_get es (length es - 1)) (sym c.deref.ensures.value) ∙ sym c.last.ensures.value
    ∙ sym c.copied.ensures ∙ c.in-Some.is in
    put_better c.args.offer c.in-Some.last bs last c.len-end.result
    (omega (arith, c.len-end.ensures, c.args.best.now.ok.0)) c.if-last-offer.false
    (sym c.wins.ensures ∙ c.if-wins.true)

pub returns-else-wins : goal.returns-else-wins
returns-else-wins c =
    let bs = c.args.best.now.items in
    let last : slice_get bs (length bs - 1) ≡ Some c.in-Some.last =
    ap (λ es. slice_get es (length es - 1)) (sym c.deref.ensures.value) ∙ sym c.last.ensures.value
    ∙ sym c.copied.ensures ∙ c.in-Some.is in
    put_worse c.args.offer c.in-Some.last bs last c.if-last-offer.false (sym c.wins.ensures ∙ c.if-wins.false)
