-- Lassos as endless sequences.
--
--   next_place_low    == the place after a place is a place
--   next_place-entry  == the entry after entry k is entry k + 1 of the round
--   next_step         == each place of a lasso of R has a step of R to the next one
--   unrolled_step     == the endless sequence of a lasso of R has steps of R alone
--   unrolled_low      == its places are places of the list
use Rattle.std.proofs.Common.{ℕ, suc, ◌≡◌, ◌+◌, ◌<◌, ◌≤◌, ◌⊎◌, inl, inr, ltb, arith, length, get_or, subst, subst₂, sym, ap, ◌∙◌, lt-ltb, le-ltb, add-one}
use Rattle.std.proofs.lemmas.Bool.{cases_lt, cond-true, cond-false}
use Rattle.ml_lists.specs.Lasso.{Lasso, entry, round, next_place, unrolled, IsLassoOf}
use Rattle.ml_lists.specs.Walk.{walk}
use Rattle.ml_lists.proofs.Lasso.{round-entry, round-end}
use Rattle.ml_lists.proofs.Walks.{walk-add-one, walk_keeps}

-- a place below the last one is followed by the next one
next_place-inner : (l : Lasso) (k : ℕ) → suc k < length l.entries → next_place l k ≡ suc k
next_place-inner l k low = cond-true (ltb (suc k) (length l.entries)) (suc k) l.start (lt-ltb (suc k) (length l.entries) low)

-- the last place is followed by the start
next_place-last : (l : Lasso) (k : ℕ) → length l.entries ≤ suc k → next_place l k ≡ l.start
next_place-last l k past = cond-false (ltb (suc k) (length l.entries)) (suc k) l.start (le-ltb (suc k) (length l.entries) past)

-- the place after a place is a place
pub next_place_low : (l : Lasso) → l.start < length l.entries → (k : ℕ) → k < length l.entries
    → next_place l k < length l.entries
next_place_low l starts k low = by_place (cases_lt (suc k) (length l.entries))
  where
    by_place : (suc k < length l.entries) ⊎ (length l.entries ≤ suc k) → next_place l k < length l.entries
    by_place (inl inner) = omega (arith, next_place-inner l k inner)
    by_place (inr last) = omega (arith, next_place-last l k last)

-- the entry after entry k is entry k + 1 of the round
pub next_place-entry : (l : Lasso) (k : ℕ) → k < length l.entries
    → entry l (next_place l k) ≡ get_or (round l) (k + 1) 0
next_place-entry l k low = by_place (cases_lt (suc k) (length l.entries))
  where
    by_place : (suc k < length l.entries) ⊎ (length l.entries ≤ suc k)
        → entry l (next_place l k) ≡ get_or (round l) (k + 1) 0
    by_place (inl inner) = ap (entry l) (next_place-inner l k inner ∙ sym (add-one k)) ∙ sym (round-entry l (k + 1) (omega arith))
    by_place (inr last) = ap (entry l) (next_place-last l k last) ∙ sym (round-end l (k + 1) (omega arith))

-- each place of a lasso of R has a step of R to the next one
pub next_step : (R : ℕ → ℕ → Type 0) (l : Lasso) → IsLassoOf R l → (k : ℕ) → k < length l.entries
    → R (entry l k) (entry l (next_place l k))
next_step R l lasso k low = subst₂ R (round-entry l k low) (sym (next_place-entry l k low)) (lasso.joined k low)

-- the places of the endless sequence are places of the list
pub unrolled_low : (l : Lasso) → l.start < length l.entries → (k : ℕ) → walk (next_place l) 0 k < length l.entries
unrolled_low l starts k = walk_keeps (next_place l) (λ p. p < length l.entries) (next_place_low l starts) 0 (omega arith) k

-- the endless sequence of a lasso of R has steps of R alone
pub unrolled_step : (R : ℕ → ℕ → Type 0) (l : Lasso) → IsLassoOf R l → (k : ℕ) → R (unrolled l k) (unrolled l (k + 1))
unrolled_step R l lasso k =
    subst (λ p. R (unrolled l k) (entry l p)) (sym (walk-add-one (next_place l) 0 k))
    (next_step R l lasso (walk (next_place l) 0 k) (unrolled_low l lasso.starts k))
