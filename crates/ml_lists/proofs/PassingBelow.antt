-- Sets of the numbers below a bound that pass a test, made number by number.
--
--   AreBelow test n set == the set has the numbers below n that pass the test
--   with_number         == a set of numbers with one more
--   one_more            == a set has those below the next number, once this one is added where it passes
use Rattle.std.proofs.Common.{◌≡◌, ◌↔◌, ◌⊎◌, ℕ, ◌+◌, ◌<◌, ◌≤◌, Bool, true, List, inl, inr, refl, sym, ap, ◌∙◌, subst, arith}
use Rattle.std.proofs.lemmas.Bool.{cases_lt}
use Rattle.ml_lists.specs.Ascending.{insert_once}
use Rattle.ml_lists.specs.Member.{IsMember}
use Rattle.ml_lists.proofs.Ascending.{insert_once-keeps, insert_once-member, member-insert_once}

abbrev pub AreBelow : (ℕ → Bool) → ℕ → List ℕ → Type 0
AreBelow test n set = (p : ℕ) → IsMember p set ↔ ((p < n) × (test p ≡ true))

pub with_number : (set more : List ℕ) (n p : ℕ)
    → more ≡ insert_once n set
    → IsMember p more ↔ (IsMember p set ⊎ ((p ≡ n) × (true ≡ true)))
with_number set more n p is = (there, back)
  where
    there : IsMember p more → IsMember p set ⊎ ((p ≡ n) × (true ≡ true))
    there m = by (insert_once-member p n set (subst (IsMember p) is m))
      where
        by : (p ≡ n) ⊎ IsMember p set → IsMember p set ⊎ ((p ≡ n) × (true ≡ true))
        by (inl same) = inr (same, refl)
        by (inr old) = inl old

    back : IsMember p set ⊎ ((p ≡ n) × (true ≡ true)) → IsMember p more
    back (inl old) = subst (IsMember p) (sym is) (insert_once-keeps p n set old)
    back (inr (same, holds)) =
        subst (IsMember p) (sym is) (subst (λ q. IsMember q (insert_once n set)) (sym same) (member-insert_once n set))

pub one_more : (test : ℕ → Bool) (n : ℕ) (set more : List ℕ) (is : Bool)
    → AreBelow test n set
    → is ≡ test n
    → ((p : ℕ) → IsMember p more ↔ (IsMember p set ⊎ ((p ≡ n) × (is ≡ true))))
    → AreBelow test (n + 1) more
one_more test n set more is so_far told added p = (there, back)
  where
    there : IsMember p more → (p < n + 1) × (test p ≡ true)
    there m = by ((added p).0 m)
      where
        by : IsMember p set ⊎ ((p ≡ n) × (is ≡ true)) → (p < n + 1) × (test p ≡ true)
        by (inl old) = let found = (so_far p).0 old in (omega (arith, found.0), found.1)
        by (inr (same, holds)) = (omega (arith, same), ap test same ∙ sym told ∙ holds)

    back : (p < n + 1) × (test p ≡ true) → IsMember p more
    back (low, holds) = by (cases_lt p n)
      where
        by : (p < n) ⊎ (n ≤ p) → IsMember p more
        by (inl less) = (added p).1 (inl ((so_far p).1 (less, holds)))
        by (inr past) =
            let same : p ≡ n = omega (arith, low, past) in
            (added p).1 (inr (same, told ∙ ap test (sym same) ∙ holds))
