-- An accepted refutation has no first bad part, and another one has one at most. (`SomeFault` has that it has one.)
--
--   never_both        == no first bad part where all parts keep their rules
--   one_fault         == two first bad parts are one, and break one lowest rule
--   rules_rise        == the rules of each part rise by their numbers
use Rattle.std.proofs.Common.{ℕ, ◌≡◌, ◌<◌, ◌≤◌, ◌⊎◌, inl, inr, List, [], ◌∷◌, get_or, sym, subst, arith}
use Rattle.std.proofs.lemmas.Bool.{cases_lt}
use Rattle.ml_lists.specs.Member.{IsMember}
use Rattle.ml_lists.specs.Ascending.{IsAscending}
use Rattle.ml_lists.specs.Readings.{numbers}
use Rattle.ml_lists.proofs.Documents.{kept_not_broken, one_broken}
use Rattle.ml_lists.proofs.Member.{place-member}
use Rattle.ml_graph.specs.Graph.{Graph}
use Rattle.ml_sequent.specs.declared.choice.Side.{Side}
use Rattle.ml_refutation.specs.Refutation.{Refutation, Decision, Split, Clash, Go}
use Rattle.ml_refutation.specs.Acceptance.{entry_at, Sequent, Live, Item, Decided, parts, rules, IsFirstBad}
use Rattle.ml_refute_check.specs.Soundness.{NeverBoth, OneFault, RulesRise}

-- no first bad part where all parts keep their rules
pub never_both : NeverBoth
never_both g r e k number accepted bad =
    let part = get_or (parts (entry_at r e)) k Sequent in
    let member = place-member (parts (entry_at r e)) k Sequent bad.is_part in
    kept_not_broken g (rules r e part) number (accepted e part bad.is_entry member) bad.broken

module _ (g : Graph) (r : Refutation) where
  -- no first bad part in front of another one
  no_earlier_entry : (e k n f j o : ℕ) → IsFirstBad g r e k n → IsFirstBad g r f j o → e < f → ⊥
  no_earlier_entry e k n f j o first second less =
      let part = get_or (parts (entry_at r e)) k Sequent in
      let member = place-member (parts (entry_at r e)) k Sequent first.is_part in
      kept_not_broken g (rules r e part) n (second.entries_before e part less member) first.broken

  no_earlier_part : (e k n j o : ℕ) → IsFirstBad g r e k n → IsFirstBad g r e j o → k < j → ⊥
  no_earlier_part e k n j o first second less =
      kept_not_broken g (rules r e (get_or (parts (entry_at r e)) k Sequent)) n
      (second.parts_before k less) first.broken

  same_entry : (e k n f j o : ℕ) → IsFirstBad g r e k n → IsFirstBad g r f j o → e ≡ f
  same_entry e k n f j o first second = by_order (cases_lt e f) (cases_lt f e)
    where
      by_order : (e < f) ⊎ (f ≤ e) → (f < e) ⊎ (e ≤ f) → e ≡ f
      by_order (inl less) other = absurd (no_earlier_entry e k n f j o first second less)
      by_order (inr more) (inl less) = absurd (no_earlier_entry f j o e k n second first less)
      by_order (inr more) (inr less) = omega arith

  same_part : (e k n j o : ℕ) → IsFirstBad g r e k n → IsFirstBad g r e j o → k ≡ j
  same_part e k n j o first second = by_order (cases_lt k j) (cases_lt j k)
    where
      by_order : (k < j) ⊎ (j ≤ k) → (j < k) ⊎ (k ≤ j) → k ≡ j
      by_order (inl less) other = absurd (no_earlier_part e k n j o first second less)
      by_order (inr more) (inl less) = absurd (no_earlier_part e j o k n second first less)
      by_order (inr more) (inr less) = omega arith

-- two first bad parts are one, and break one lowest rule
pub one_fault : OneFault
one_fault g r e k number f j other first second =
    let entry : e ≡ f = same_entry g r e k number f j other first second in
    let here : IsFirstBad g r e j other = subst (λ x. IsFirstBad g r x j other) (sym entry) second in
    let part : k ≡ j = same_part g r e k number j other first here in
    let there : IsFirstBad g r e k other = subst (λ x. IsFirstBad g r e x other) (sym part) here in (
      entry,
      part,
      one_broken g
          (rules r e (get_or (parts (entry_at r e)) k Sequent)) number other first.broken there.broken,
    )

one_number : (n : ℕ) → IsAscending (n ∷ [])
one_number n = ((λ y h. absurd h), tt)

rises : (decision : Decision) (r : Refutation) (e : ℕ)
    (c : List (ℕ × Side))
    → IsAscending (numbers (rules r e (Decided (record { choice = c; decision = decision }))))
rises (Split n left right) r e c = one_number 5
rises (Clash x) r e c = one_number 6
rises (Go d f m) r e c = ((λ y h. from y h), ((λ y h. later y h), ((λ y h. last y h), one_number 10)))
  where
    last : (y : ℕ) → IsMember y (10 ∷ []) → 9 < y
    last y (inl i) = omega arith
    last y (inr h) = absurd h

    later : (y : ℕ) → IsMember y (9 ∷ 10 ∷ []) → 8 < y
    later y (inl i) = omega arith
    later y (inr (inl i)) = omega arith
    later y (inr (inr h)) = absurd h

    from : (y : ℕ) → IsMember y (8 ∷ 9 ∷ 10 ∷ []) → 7 < y
    from y (inl i) = omega arith
    from y (inr (inl i)) = omega arith
    from y (inr (inr (inl i))) = omega arith
    from y (inr (inr (inr h))) = absurd h

-- the rules of each part rise by their numbers
pub rules_rise : RulesRise
rules_rise r e Sequent = one_number 2
rules_rise r e Live = one_number 3
rules_rise r e (Item a) = one_number 4
rules_rise r e (Decided b) = rises b.decision r e b.choice
