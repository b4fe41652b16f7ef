-- The order of offers: which stack beats which.
--
-- That a stack does not beat another is a total order; the best of some stacks is one that none of them beats.
--
--   beats-cases, beats-cases_not, beats-from_not == two stacks with names in front
--   beats_irreflexive, beats_asymmetric          == no stack beats itself, nor one that beats it
--   beats_not_trans                              == what does not beat b, which does not beat s, does not beat s
--   best-member                                  == the best of some stacks is one of them
--   best_unbeaten                                == no stack beats the best of some stacks to which it belongs
use Rattle.std.proofs.Common.{ℕ, ◌≡◌, ◌<◌, ◌⊎◌, inl, inr, arith, true, false, eqb, ltb, List, [], ◌∷◌, refl, sym, subst, ◌∙◌}
use Rattle.std.proofs.lemmas.Bool.{cases_Bool, cond-true, cond-false, ltb-true, ltb-false, eqb-true, eqb-false, eq-eqb, ne_eqb, le-ltb}
use Rattle.ml_lists.specs.Member.{IsMember}
use Rattle.ml_history.specs.HistoryStep.{beats, better, best}

-- a stack with x in front beats one with y in front: by what is behind, or by x
pub beats-cases : (x y : ℕ) (xs ys : List ℕ)
    → beats (x ∷ xs) (y ∷ ys) ≡ true
    → ((x ≡ y) × (beats xs ys ≡ true)) ⊎ (x < y)
beats-cases x y xs ys b = by_test (cases_Bool (eqb x y))
  where
    by_test : (eqb x y ≡ true) ⊎ (eqb x y ≡ false) → ((x ≡ y) × (beats xs ys ≡ true)) ⊎ (x < y)
    by_test (inl t) = inl (eqb-true x y t, sym (cond-true (eqb x y) (beats xs ys) (ltb x y) t) ∙ b)
    by_test (inr f) = inr (ltb-true x y (sym (cond-false (eqb x y) (beats xs ys) (ltb x y) f) ∙ b))

-- it does not: by what is behind, or by y
pub beats-cases_not : (x y : ℕ) (xs ys : List ℕ)
    → beats (x ∷ xs) (y ∷ ys) ≡ false
    → ((x ≡ y) × (beats xs ys ≡ false)) ⊎ (y < x)
beats-cases_not x y xs ys b = by_test (cases_Bool (eqb x y))
  where
    by_test : (eqb x y ≡ true) ⊎ (eqb x y ≡ false) → ((x ≡ y) × (beats xs ys ≡ false)) ⊎ (y < x)
    by_test (inl t) = inl (eqb-true x y t, sym (cond-true (eqb x y) (beats xs ys) (ltb x y) t) ∙ b)
    by_test (inr f) =
        let le = ltb-false x y (sym (cond-false (eqb x y) (beats xs ys) (ltb x y) f) ∙ b) in
        let ne = eqb-false x y f in
        inr (omega arith)

-- and the other way round
pub beats-from_not : (x y : ℕ) (xs ys : List ℕ)
    → ((x ≡ y) × (beats xs ys ≡ false)) ⊎ (y < x)
    → beats (x ∷ xs) (y ∷ ys) ≡ false
beats-from_not x y xs ys (inl same) = cond-true (eqb x y) (beats xs ys) (ltb x y) (eq-eqb x y same.0) ∙ same.1
beats-from_not x y xs ys (inr low) =
    let ne : x ≡ y → ⊥ = λ e. omega arith in
    cond-false (eqb x y) (beats xs ys) (ltb x y) (ne_eqb x y ne) ∙ le-ltb x y (omega arith)

-- no stack beats itself
pub beats_irreflexive : (s : List ℕ) → beats s s ≡ false
beats_irreflexive [] = refl
beats_irreflexive (x ∷ xs) = beats-from_not x x xs xs (inl (refl, beats_irreflexive xs))

-- no stack beats one that beats it
pub beats_asymmetric : (s t : List ℕ) → beats s t ≡ true → beats t s ≡ false
beats_asymmetric [] t b = absurd (cc)
beats_asymmetric (x ∷ xs) [] b = refl
beats_asymmetric (x ∷ xs) (y ∷ ys) b = by_part (beats-cases x y xs ys b) (beats_asymmetric xs ys)
  where
    by_part : ((x ≡ y) × (beats xs ys ≡ true)) ⊎ (x < y)
        → (beats xs ys ≡ true → beats ys xs ≡ false)
        → beats (y ∷ ys) (x ∷ xs) ≡ false
    by_part (inl same) rest = beats-from_not y x ys xs (inl (sym same.0, rest same.1))
    by_part (inr low) rest = beats-from_not y x ys xs (inr low)

-- what does not beat b, which does not beat s, does not beat s
pub beats_not_trans : (u b s : List ℕ) → beats u b ≡ false → beats b s ≡ false → beats u s ≡ false
beats_not_trans [] b s p q = refl
beats_not_trans (x ∷ xs) [] s p q = absurd (cc)
beats_not_trans (x ∷ xs) (y ∷ ys) [] p q = absurd (cc)
beats_not_trans (x ∷ xs) (y ∷ ys) (z ∷ zs) p q =
    by_part (beats-cases_not x y xs ys p) (beats-cases_not y z ys zs q) (beats_not_trans xs ys zs)
  where
    by_part : ((x ≡ y) × (beats xs ys ≡ false)) ⊎ (y < x)
        → ((y ≡ z) × (beats ys zs ≡ false)) ⊎ (z < y)
        → (beats xs ys ≡ false → beats ys zs ≡ false → beats xs zs ≡ false)
        → beats (x ∷ xs) (z ∷ zs) ≡ false
    by_part (inl s1) (inl s2) rest = beats-from_not x z xs zs (inl (s1.0 ∙ s2.0, rest s1.1 s2.1))
    by_part (inl s1) (inr low) rest = let e = s1.0 in beats-from_not x z xs zs (inr (omega arith))
    by_part (inr low) (inl s2) rest = let e = s2.0 in beats-from_not x z xs zs (inr (omega arith))
    by_part (inr l1) (inr l2) rest = beats-from_not x z xs zs (inr (omega arith))

-- the better of two stacks is one of them, and neither beats it
better_is : (s b : List ℕ) → ((better s b ≡ b) × (beats b s ≡ true)) ⊎ ((better s b ≡ s) × (beats b s ≡ false))
better_is s b = by_test (cases_Bool (beats b s))
  where
    by_test : (beats b s ≡ true) ⊎ (beats b s ≡ false)
        → ((better s b ≡ b) × (beats b s ≡ true)) ⊎ ((better s b ≡ s) × (beats b s ≡ false))
    by_test (inl t) = inl (cond-true (beats b s) b s t, t)
    by_test (inr f) = inr (cond-false (beats b s) b s f, f)

-- the best of some stacks is one of them
pub best-member : (s : List ℕ) (ss : List (List ℕ)) → IsMember (best (s ∷ ss)) (s ∷ ss)
best-member s [] = inl (cond-false (beats [] s) [] s refl)
best-member s (t ∷ ts) = by_part (better_is s (best (t ∷ ts))) (best-member t ts)
  where
    by_part : ((better s (best (t ∷ ts)) ≡ best (t ∷ ts)) × (beats (best (t ∷ ts)) s ≡ true))
        ⊎ ((better s (best (t ∷ ts)) ≡ s) × (beats (best (t ∷ ts)) s ≡ false))
        → IsMember (best (t ∷ ts)) (t ∷ ts)
        → IsMember (best (s ∷ (t ∷ ts))) (s ∷ (t ∷ ts))
    by_part (inl later) rest = inr (subst (λ v. IsMember v (t ∷ ts)) (sym later.0) rest)
    by_part (inr here) rest = inl here.0

-- no stack beats the best of some stacks to which it belongs
pub best_unbeaten : (u : List ℕ) (ss : List (List ℕ)) → IsMember u ss → beats u (best ss) ≡ false
best_unbeaten u [] m = absurd m
best_unbeaten u (s ∷ ss) m = by_part m (better_is s (best ss)) (best_unbeaten u ss)
  where
    by_part : (u ≡ s) ⊎ IsMember u ss
        → ((better s (best ss) ≡ best ss) × (beats (best ss) s ≡ true))
        ⊎ ((better s (best ss) ≡ s) × (beats (best ss) s ≡ false))
        → (IsMember u ss → beats u (best ss) ≡ false)
        → beats u (best (s ∷ ss)) ≡ false
    by_part (inl same) (inl later) rest =
        subst (λ v. beats u v ≡ false) (sym later.0)
        (subst (λ v. beats v (best ss) ≡ false) (sym same) (beats_asymmetric (best ss) s later.1))
    by_part (inl same) (inr here) rest =
        subst (λ v. beats u v ≡ false) (sym here.0) (subst (λ v. beats v s ≡ false) (sym same) (beats_irreflexive s))
    by_part (inr i) (inl later) rest = subst (λ v. beats u v ≡ false) (sym later.0) (rest i)
    by_part (inr i) (inr here) rest =
        subst (λ v. beats u v ≡ false) (sym here.0) (beats_not_trans u (best ss) s (rest i) here.1)
