-- The mark, by the least red and the least green name.
--
--   mark_of-red     == a mark Red x: x is the least red name
--   mark_of-green   == a mark Green x: x is the least green name, and none below it is red
--   mark_of-neutral == a mark Neutral: no name is red or green
--   mark_of-le      == the mark is at or below Green y for each green name y
use Rattle.std.proofs.Common.{ℕ, ◌≡◌, ◌<◌, ◌≤◌, ◌⊎◌, inl, inr, arith, Bool, true, false, cond, ltb, Option, Some, None, sym, subst}
use Rattle.std.proofs.lemmas.Bool.{cases_Bool, cond-true, cond-false, ltb-true, ltb-false, le-leb}
use Rattle.ml_lists.specs.Least.{least}
use Rattle.ml_lists.proofs.Least.{IsLeast, Says, least-says, least-found}
use Rattle.ml_trace.specs.declared.marks.Mark.{Mark}
use Rattle.ml_trace.specs.declared.marks.Mark.TheVariants.{Red, Green, Neutral}
use Rattle.ml_trace.specs.MarkOrder.{mark_le}
use Rattle.ml_history.specs.HistoryStep.{mark_of}

module _ (red green : ℕ → Bool) (n : ℕ) where
  -- what a mark says of red and green names below n
  pub SaysMark : Mark → Type 0
  SaysMark (Red x) = IsLeast red n x
  SaysMark (Green x) = IsLeast green n x × ((k : ℕ) → k < x → red k ≡ false)
  SaysMark Neutral = ((k : ℕ) → k < n → red k ≡ false) × ((k : ℕ) → k < n → green k ≡ false)

  -- the mark says so
  says : (p q : Option ℕ) → Says red n p → Says green n q → SaysMark (mark_of p q)
  unfolding SaysMark
  says None None r g = (r, g)
  says None (Some y) r g = (g, λ k low. r k (omega (arith, g.below)))
  says (Some x) None r g = r
  says (Some x) (Some y) r g = by_test (cases_Bool (ltb x y))
    where
      by_test : (ltb x y ≡ true) ⊎ (ltb x y ≡ false) → SaysMark (cond (ltb x y) (Red x) (Green y))
      by_test (inl t) = subst SaysMark (sym (cond-true (ltb x y) (Red x) (Green y) t)) r
      by_test (inr f) = let le = ltb-false x y f in
          subst SaysMark (sym (cond-false (ltb x y) (Red x) (Green y) f)) (g, λ k low. r.first k (omega arith))

  -- so does the mark of the least red and the least green name
  the_mark-says : SaysMark (mark_of (least red n) (least green n))
  the_mark-says = says (least red n) (least green n) (least-says red n) (least-says green n)

  -- a mark Red x: x is the least red name
  pub mark_of-red : (x : ℕ) → mark_of (least red n) (least green n) ≡ Red x → IsLeast red n x
  unfolding SaysMark
  mark_of-red x e = subst SaysMark e the_mark-says

  -- a mark Green x: x is the least green name, and none below it is red
  pub mark_of-green : (x : ℕ)
      → mark_of (least red n) (least green n) ≡ Green x
      → IsLeast green n x × ((k : ℕ) → k < x → red k ≡ false)
  unfolding SaysMark
  mark_of-green x e = subst SaysMark e the_mark-says

  -- a mark Neutral: no name is red or green
  pub mark_of-neutral : mark_of (least red n) (least green n) ≡ Neutral
      → ((k : ℕ) → k < n → red k ≡ false) × ((k : ℕ) → k < n → green k ≡ false)
  unfolding SaysMark
  mark_of-neutral e = subst SaysMark e the_mark-says

  -- with a least green name at most y, the mark is at or below Green y
  le_green : (y z : ℕ) → z ≤ y → (p : Option ℕ) → mark_le (mark_of p (Some z)) (Green y) ≡ true
  le_green y z le None = le-leb z y le
  le_green y z le (Some x) = by_test (cases_Bool (ltb x z))
    where
      by_test : (ltb x z ≡ true) ⊎ (ltb x z ≡ false) → mark_le (cond (ltb x z) (Red x) (Green z)) (Green y) ≡ true
      by_test (inl t) =
          let low = ltb-true x z t in
          subst (λ m. mark_le m (Green y) ≡ true) (sym (cond-true (ltb x z) (Red x) (Green z) t))
          (le-leb x y (omega arith))
      by_test (inr f) = subst (λ m. mark_le m (Green y) ≡ true) (sym (cond-false (ltb x z) (Red x) (Green z) f))
          (le-leb z y le)

  -- the mark is at or below Green y for each green name y
  pub mark_of-le : (y : ℕ) → y < n → green y ≡ true → mark_le (mark_of (least red n) (least green n)) (Green y) ≡ true
  mark_of-le y low passes =
      let f = least-found green n y low passes in
      subst (λ q. mark_le (mark_of (least red n) q) (Green y) ≡ true) (sym f.is)
      (le_green y f.answer f.at_most (least red n))
