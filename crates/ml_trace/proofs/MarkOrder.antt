-- The order of marks is total, and the lowest mark is the lowest.
--
--   mark_le_refl, mark_le_trans, mark_le_total == the order
--   lowest_mark_le       == the lowest mark is at or below each mark of the list
--   lowest_mark_is       == the lowest mark is Neutral, or one of the list
--   odd-is_green         == an odd mark is Green x for some x
--   is_green_from, is_green-refl == the test for Green x
use Rattle.std.proofs.Common.{ℕ, ◌≡◌, ◌⊎◌, inl, inr, arith, true, false, List, [], ◌∷◌, refl, sym, subst, ap, ◌∙◌}
use Rattle.std.proofs.lemmas.Bool.{cases_Bool, cond-true, cond-false, leb-true, ltb-true, leb-false, ltb-false, le-leb, lt-ltb, eqb-true, eq-eqb}
use Rattle.ml_lists.specs.Member.{IsMember}
use Rattle.ml_trace.specs.declared.marks.Mark.{Mark}
use Rattle.ml_trace.specs.declared.marks.Mark.TheVariants.{Red, Green, Neutral}
use Rattle.ml_trace.specs.MarkOrder.{mark_le, lower_mark, lowest_mark, is_odd, is_green}

-- each mark is at or below itself
pub mark_le_refl : (m : Mark) → mark_le m m ≡ true
mark_le_refl (Red x) = le-leb x x (omega arith)
mark_le_refl (Green x) = le-leb x x (omega arith)
mark_le_refl Neutral = refl

-- the order is transitive
pub mark_le_trans : (l m n : Mark) → mark_le l m ≡ true → mark_le m n ≡ true → mark_le l n ≡ true
mark_le_trans (Red x) m Neutral p q = refl
mark_le_trans (Green x) m Neutral p q = refl
mark_le_trans Neutral m Neutral p q = refl
mark_le_trans l Neutral (Red z) p q = absurd (cc)
mark_le_trans l Neutral (Green z) p q = absurd (cc)
mark_le_trans Neutral (Red y) (Red z) p q = absurd (cc)
mark_le_trans Neutral (Red y) (Green z) p q = absurd (cc)
mark_le_trans Neutral (Green y) (Red z) p q = absurd (cc)
mark_le_trans Neutral (Green y) (Green z) p q = absurd (cc)
mark_le_trans (Red x) (Red y) (Red z) p q = le-leb x z (omega (arith, leb-true x y p, leb-true y z q))
mark_le_trans (Red x) (Red y) (Green z) p q = le-leb x z (omega (arith, leb-true x y p, leb-true y z q))
mark_le_trans (Red x) (Green y) (Red z) p q = le-leb x z (omega (arith, leb-true x y p, ltb-true y z q))
mark_le_trans (Red x) (Green y) (Green z) p q = le-leb x z (omega (arith, leb-true x y p, leb-true y z q))
mark_le_trans (Green x) (Red y) (Red z) p q = lt-ltb x z (omega (arith, ltb-true x y p, leb-true y z q))
mark_le_trans (Green x) (Red y) (Green z) p q = le-leb x z (omega (arith, ltb-true x y p, leb-true y z q))
mark_le_trans (Green x) (Green y) (Red z) p q = lt-ltb x z (omega (arith, leb-true x y p, ltb-true y z q))
mark_le_trans (Green x) (Green y) (Green z) p q = le-leb x z (omega (arith, leb-true x y p, leb-true y z q))

-- of two marks one is at or below the other
pub mark_le_total : (m n : Mark) → mark_le m n ≡ false → mark_le n m ≡ true
mark_le_total m Neutral p = absurd (above_all m p)
  where
    above_all : (l : Mark) → mark_le l Neutral ≡ false → ⊥
    above_all (Red x) e = cc
    above_all (Green x) e = cc
    above_all Neutral e = cc
mark_le_total Neutral (Red y) p = refl
mark_le_total Neutral (Green y) p = refl
mark_le_total (Red x) (Red y) p = le-leb y x (omega (arith, leb-false x y p))
mark_le_total (Red x) (Green y) p = lt-ltb y x (omega (arith, leb-false x y p))
mark_le_total (Green x) (Red y) p = le-leb y x (omega (arith, ltb-false x y p))
mark_le_total (Green x) (Green y) p = le-leb y x (omega (arith, leb-false x y p))

-- the lowest mark is at or below each mark of the list
pub lowest_mark_le : (m : Mark) (ms : List Mark) → IsMember m ms → mark_le (lowest_mark ms) m ≡ true
lowest_mark_le m [] i = absurd i
lowest_mark_le m (n ∷ ns) i = by_test i (lowest_mark_le m ns) (cases_Bool (mark_le n (lowest_mark ns)))
  where
    by_test : (m ≡ n) ⊎ IsMember m ns
        → (IsMember m ns → mark_le (lowest_mark ns) m ≡ true)
        → (mark_le n (lowest_mark ns) ≡ true) ⊎ (mark_le n (lowest_mark ns) ≡ false)
        → mark_le (lower_mark n (lowest_mark ns)) m ≡ true
    by_test (inl same) rest (inl t) =
        subst (λ l. mark_le l m ≡ true) (sym (cond-true (mark_le n (lowest_mark ns)) n (lowest_mark ns) t))
        (subst (λ l. mark_le l m ≡ true) same (mark_le_refl m))
    by_test (inr later) rest (inl t) =
        subst (λ l. mark_le l m ≡ true) (sym (cond-true (mark_le n (lowest_mark ns)) n (lowest_mark ns) t))
        (mark_le_trans n (lowest_mark ns) m t (rest later))
    by_test (inl same) rest (inr f) =
        subst (λ l. mark_le l m ≡ true) (sym (cond-false (mark_le n (lowest_mark ns)) n (lowest_mark ns) f))
        (subst (λ l. mark_le (lowest_mark ns) l ≡ true) (sym same) (mark_le_total n (lowest_mark ns) f))
    by_test (inr later) rest (inr f) =
        subst (λ l. mark_le l m ≡ true) (sym (cond-false (mark_le n (lowest_mark ns)) n (lowest_mark ns) f))
        (rest later)

-- the lowest mark is Neutral, or one of the list
pub lowest_mark_is : (ms : List Mark) → (lowest_mark ms ≡ Neutral) ⊎ IsMember (lowest_mark ms) ms
lowest_mark_is [] = inl refl
lowest_mark_is (n ∷ ns) = by_test (lowest_mark_is ns) (cases_Bool (mark_le n (lowest_mark ns)))
  where
    by_test : (lowest_mark ns ≡ Neutral) ⊎ IsMember (lowest_mark ns) ns
        → (mark_le n (lowest_mark ns) ≡ true) ⊎ (mark_le n (lowest_mark ns) ≡ false)
        → (lowest_mark (n ∷ ns) ≡ Neutral) ⊎ IsMember (lowest_mark (n ∷ ns)) (n ∷ ns)
    by_test old (inl t) = inr (inl (cond-true (mark_le n (lowest_mark ns)) n (lowest_mark ns) t))
    by_test (inl none) (inr f) = inl (cond-false (mark_le n (lowest_mark ns)) n (lowest_mark ns) f ∙ none)
    by_test (inr i) (inr f) = inr (inr (subst (λ l. IsMember l ns) (sym (cond-false (mark_le n (lowest_mark ns)) n (lowest_mark ns) f)) i))

-- an odd mark is Green x for some x
pub odd-is_green : (m : Mark) → is_odd m ≡ true → (x : ℕ) × (m ≡ Green x)
odd-is_green (Red x) p = absurd (cc)
odd-is_green (Green x) p = (x, refl)
odd-is_green Neutral p = absurd (cc)

-- what passes the test for Green x is Green x
pub is_green_from : (x : ℕ) (m : Mark) → is_green x m ≡ true → m ≡ Green x
is_green_from x (Red y) p = absurd (cc)
is_green_from x (Green y) p = ap Green (eqb-true y x p)
is_green_from x Neutral p = absurd (cc)

-- Green x passes
pub is_green-refl : (x : ℕ) → is_green x (Green x) ≡ true
is_green-refl x = eq-eqb x x refl
