use Rattle.std.proofs.Common.{ℕ, ◌≡◌, ◌<◌, ◌≤◌, ◌+◌, ◌⊎◌, inl, inr, ◌∙◌, ◌&&◌, ◌++◌, ◌∷◌, [], false, not, length, get_or, ap, sym, arith}
use Rattle.std.proofs.lemmas.Bool.{cases_lt}
use Rattle.std.proofs.lemmas.List.{length-append}
use Rattle.ml_history.specs.private.TreeStep.{flagged}
use Rattle.ml_history.proofs.arrays.CutOffers.{flag-append_old, flag-append_new, flag-beyond}
use Rattle.ml_history.proofs.flat.cutting.full_of.Goals as goal

pub loop-y-init : goal.loop-y-init
loop-y-init c = (ap length c.in_ok-full.ensures.items, λ z low. absurd (omega arith))

pub loop-y-preserved : goal.loop-y-preserved
loop-y-preserved c = (
  ap length c.in_ok-push.ensures.items ∙ (let n = length-append c.loop-y.full.items (c.is_full.result ∷ []) in
      omega (arith, n, c.loop-y.invariant.0)),
  λ z low. ap (λ fs. flagged fs z) c.in_ok-push.ensures.items ∙ by_place z low (cases_lt z c.loop-y.y),
)
  where
    by_place : (z : ℕ)
        → z < c.loop-y.y + 1
        → (z < c.loop-y.y) ⊎ (c.loop-y.y ≤ z)
        → flagged (c.loop-y.full.items ++ c.is_full.result ∷ []) z
        ≡ (flagged c.args.standing.now z && not (flagged c.args.ends.now z))
    by_place z low (inl less) = flag-append_old c.loop-y.full.items c.is_full.result z
        (omega (arith, c.loop-y.invariant.0, less)) ∙ c.loop-y.invariant.1 z less
    by_place z low (inr high) =
        let e : c.loop-y.y ≡ z = omega arith in
        flag-append_new c.loop-y.full.items c.is_full.result z (omega (arith, c.loop-y.invariant.0, e))
        ∙ c.is_full.ensures ∙ told z e
      where
        told : (z : ℕ)
            → c.loop-y.y ≡ z
            → (get_or c.args.standing.now c.loop-y.y false && not (get_or c.args.ends.now c.loop-y.y false))
            ≡ (flagged c.args.standing.now z && not (flagged c.args.ends.now z))
        told z e = ap (λ k. get_or c.args.standing.now k false && not (get_or c.args.ends.now k false)) e

pub returns-clause-count : goal.returns-clause-count
returns-clause-count c = omega (arith, c.loop-y.invariant.0, c.loop-y-test.false, c.loop-y.auto.y-end)

pub returns-clause-flags : goal.returns-clause-flags
returns-clause-flags c = λ y. by_place y (cases_lt y (length c.args.standing.now))
  where
    by_place : (y : ℕ)
        → (y < length c.args.standing.now) ⊎ (length c.args.standing.now ≤ y)
        → flagged c.loop-y.full.items y ≡ (flagged c.args.standing.now y && not (flagged c.args.ends.now y))
    by_place y (inl low) = c.loop-y.invariant.1 y (omega (arith, c.loop-y-test.false, low))
    by_place y (inr high) =
        flag-beyond c.loop-y.full.items y
        (omega (arith, c.loop-y.invariant.0, c.loop-y-test.false, c.loop-y.auto.y-end, high))
        ∙ sym (ap (λ b. b && not (flagged c.args.ends.now y)) (flag-beyond c.args.standing.now y high))
