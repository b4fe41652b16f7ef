-- Marks as numbers: priorities.
--
-- The number of Neutral is even and above those of the other marks in play.
--
--   priority_le, priority_ge == the order of marks is that of their numbers
--   priority-most            == no mark that fits has a greater number than Neutral
--   priority-lower           == the number of the lower of two marks is the lower number
--   lowest_priority          == the lowest number is that of the lowest mark
--   odd_priority             == it is odd exactly if the mark is
--   priorities_agree         == so the lowest number is odd exactly if the lowest mark is
use Rattle.std.proofs.Common.{ℕ, ◌≡◌, ◌↔◌, ◌%◌, ◌≤◌, ◌⊎◌, inl, inr, arith, true, false, min, List, [], ◌∷◌, map, refl, sym, ap, ◌∙◌, subst}
use Rattle.std.proofs.lemmas.Bool.{cases_Bool, cond-true, cond-false, leb-true, leb-false, ltb-true, ltb-false}
use Rattle.ml_lists.specs.Lowest.{lowest}
use Rattle.ml_lists.specs.Member.{IsMember}
use Rattle.ml_trace.specs.declared.marks.Mark.{Mark}
use Rattle.ml_trace.specs.declared.marks.Mark.TheVariants.{Red, Green, Neutral}
use Rattle.ml_trace.specs.Marks.{priority}
use Rattle.ml_trace.specs.MarkOrder.{mark_le, lower_mark, lowest_mark, is_odd, FitsBelow, PrioritiesAgree}
use Rattle.ml_trace.proofs.MarkOrder.{lowest_mark_is}

-- a mark at or below another has a number at or below its number
pub priority_le : (top : ℕ) (m n : Mark) → FitsBelow top m → mark_le m n ≡ true → priority top m ≤ priority top n
priority_le top (Red x) (Red y) f e = omega (arith, leb-true x y e)
priority_le top (Red x) (Green y) f e = omega (arith, leb-true x y e)
priority_le top (Red x) Neutral f e = omega arith
priority_le top (Green x) (Red y) f e = omega (arith, ltb-true x y e)
priority_le top (Green x) (Green y) f e = omega (arith, leb-true x y e)
priority_le top (Green x) Neutral f e = omega arith
priority_le top Neutral (Red y) f e = absurd (cc)
priority_le top Neutral (Green y) f e = absurd (cc)
priority_le top Neutral Neutral f e = omega arith

-- a mark that is not has a number at or above it
pub priority_ge : (top : ℕ) (m n : Mark) → FitsBelow top n → mark_le m n ≡ false → priority top n ≤ priority top m
priority_ge top (Red x) (Red y) f e = omega (arith, leb-false x y e)
priority_ge top (Red x) (Green y) f e = omega (arith, leb-false x y e)
priority_ge top (Red x) Neutral f e = absurd (cc)
priority_ge top (Green x) (Red y) f e = omega (arith, ltb-false x y e)
priority_ge top (Green x) (Green y) f e = omega (arith, leb-false x y e)
priority_ge top (Green x) Neutral f e = absurd (cc)
priority_ge top Neutral (Red y) f e = omega arith
priority_ge top Neutral (Green y) f e = omega arith
priority_ge top Neutral Neutral f e = absurd (cc)

-- the number of the lower of two marks is the lower number
pub priority-lower : (top : ℕ) (m n : Mark)
    → FitsBelow top m
    → FitsBelow top n
    → priority top (lower_mark m n) ≡ min (priority top m) (priority top n)
priority-lower top m n f g = by_test (cases_Bool (mark_le m n))
  where
    by_test : (mark_le m n ≡ true) ⊎ (mark_le m n ≡ false)
        → priority top (lower_mark m n) ≡ min (priority top m) (priority top n)
    by_test (inl t) =
        let le = priority_le top m n f t in
        let e : priority top m ≡ min (priority top m) (priority top n) = omega arith in
        ap (priority top) (cond-true (mark_le m n) m n t) ∙ e
    by_test (inr u) =
        let ge = priority_ge top m n g u in
        let e : priority top n ≡ min (priority top m) (priority top n) = omega arith in
        ap (priority top) (cond-false (mark_le m n) m n u) ∙ e

-- the lowest mark fits if all do
lowest_fits : (top : ℕ) (ms : List Mark)
    → ((n : Mark) → IsMember n ms → FitsBelow top n)
    → FitsBelow top (lowest_mark ms)
lowest_fits top ms fits = by_place (lowest_mark_is ms)
  where
    by_place : (lowest_mark ms ≡ Neutral) ⊎ IsMember (lowest_mark ms) ms → FitsBelow top (lowest_mark ms)
    by_place (inl none) = subst (FitsBelow top) (sym none) tt
    by_place (inr i) = fits (lowest_mark ms) i

-- a mark is at or below Neutral
below_neutral : (m : Mark) → mark_le m Neutral ≡ true
below_neutral (Red x) = refl
below_neutral (Green x) = refl
below_neutral Neutral = refl

-- the lowest number is that of the lowest mark
pub lowest_priority : (top : ℕ) (m : Mark) (ms : List Mark)
    → ((n : Mark) → IsMember n (m ∷ ms) → FitsBelow top n)
    → lowest (priority top m) (map (priority top) ms) ≡ priority top (lowest_mark (m ∷ ms))
lowest_priority top m [] fits = ap (priority top) (sym (cond-true (mark_le m Neutral) m Neutral (below_neutral m)))
lowest_priority top m (n ∷ ns) fits =
    ap (λ v. min (priority top m) v) (lowest_priority top n ns (λ l i. fits l (inr i)))
    ∙ sym (priority-lower top m (lowest_mark (n ∷ ns)) (fits m (inl refl))
    (lowest_fits top (n ∷ ns) (λ l i. fits l (inr i))))

-- a number is odd exactly if its mark is
pub odd_priority : (top : ℕ) (m : Mark) → top % 2 ≡ 0 → (priority top m % 2 ≡ 1) ↔ (is_odd m ≡ true)
odd_priority top (Red x) even = ((λ e. absurd (omega arith)), (λ e. absurd (cc)))
odd_priority top (Green x) even = ((λ e. refl), (λ e. omega arith))
odd_priority top Neutral even = ((λ e. absurd (omega arith)), (λ e. absurd (cc)))

-- the lowest number is odd exactly if the lowest mark is
pub priorities_agree : PrioritiesAgree
priorities_agree top m ms even fits =
    let odd = odd_priority top (lowest_mark (m ∷ ms)) even in
    let same = lowest_priority top m ms fits in
    ((λ e. odd.0 (subst (λ v. v % 2 ≡ 1) same e)), (λ e. subst (λ v. v % 2 ≡ 1) (sym same) (odd.1 e)))

-- no mark that fits has a greater number than Neutral
pub priority-most : (top : ℕ) (m : Mark) → FitsBelow top m → priority top m ≤ top
priority-most top (Red x) fits = omega arith
priority-most top (Green x) fits = omega arith
priority-most top Neutral fits = omega arith
