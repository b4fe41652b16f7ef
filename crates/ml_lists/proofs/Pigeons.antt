-- The pigeonhole principle: n + 1 numbers below n are not all different.
--
-- By induction on n. If no earlier pigeon sits in the hole of the last one, then whoever sits in the last hole
-- moves to the hole of the last pigeon, and one pigeon and one hole less are left.
--
--   pigeons      == a sequence with f k < n for each k of at most n takes one value twice
--   pigeons_list == a list of more than n numbers below n has one number at two places
use Rattle.std.proofs.Common.{ℕ, zero, suc, ◌≡◌, ◌<◌, ◌≤◌, ◌⊎◌, inl, inr, arith, sym, ◌∙◌, cond, eqb, eq-eqb, ne_eqb, List, length, get_or}
use Rattle.std.proofs.lemmas.List.{get_or_default}
use Rattle.std.proofs.lemmas.Bool.{cases_eq, cond-true, cond-false}
use Rattle.ml_lists.specs.Found.{Found}
use Rattle.ml_lists.specs.Pigeons.{Twice}
use Rattle.ml_lists.proofs.Search.{search}

-- the holes of the first m + 1 pigeons, where whoever sat in the last hole m has moved to the hole w
abbrev moved : (ℕ → ℕ) → ℕ → ℕ → ℕ → ℕ
moved f m w k = cond (eqb (f k) m) w (f k)

moved-last : (f : ℕ → ℕ) (m w k : ℕ) → f k ≡ m → moved f m w k ≡ w
moved-last f m w k last = cond-true (eqb (f k) m) w (f k) (eq-eqb (f k) m last)

moved-other : (f : ℕ → ℕ) (m w k : ℕ) → (f k ≡ m → ⊥) → moved f m w k ≡ f k
moved-other f m w k other = cond-false (eqb (f k) m) w (f k) (ne_eqb (f k) m other)

-- where nobody else sits in the hole w of the last pigeon, everyone sits below m after the move
moved_below : (f : ℕ → ℕ) (m w k : ℕ) → f k < suc m → w < suc m → (f k ≡ w → ⊥) → moved f m w k < m
moved_below f m w k low last alone = by_case (cases_eq (f k) m)
  where
    by_case : (f k ≡ m) ⊎ (f k ≡ m → ⊥) → moved f m w k < m
    by_case (inl e) =
        let here = moved-last f m w k e in
        let w_is_not_m : w ≡ m → ⊥ = λ s. alone (e ∙ sym s) in
        omega arith
    by_case (inr n) = let here = moved-other f m w k n in omega arith

-- two pigeons that share a hole after the move shared it before
moved_same : (f : ℕ → ℕ) (m w i j : ℕ) → (f i ≡ w → ⊥) → (f j ≡ w → ⊥) → moved f m w i ≡ moved f m w j → f i ≡ f j
moved_same f m w i j alone_i alone_j same = by_case (cases_eq (f i) m) (cases_eq (f j) m)
  where
    by_case : (f i ≡ m) ⊎ (f i ≡ m → ⊥) → (f j ≡ m) ⊎ (f j ≡ m → ⊥) → f i ≡ f j
    by_case (inl a) (inl b) = a ∙ sym b
    by_case (inl a) (inr b) = absurd (alone_j (sym (moved-other f m w j b) ∙ sym same ∙ moved-last f m w i a))
    by_case (inr a) (inl b) = absurd (alone_i (sym (moved-other f m w i a) ∙ same ∙ moved-last f m w j b))
    by_case (inr a) (inr b) = sym (moved-other f m w i a) ∙ same ∙ moved-other f m w j b

-- a sequence with f k < n for each k of at most n takes one value twice
pub pigeons : (n : ℕ) (f : ℕ → ℕ) → ((k : ℕ) → k ≤ n → f k < n) → Twice f n
pigeons zero f fits = absurd (omega (arith, fits 0 (omega arith)))
pigeons (suc m) f fits = by_case (search (λ k. f k ≡ f (suc m)) (λ k. f k ≡ f (suc m) → ⊥) (λ k. cases_eq (f k) (f (suc m))) (suc m)) (pigeons m)
  where
    found : Found (λ k. f k ≡ f (suc m)) (suc m) → Twice f (suc m)
    found s = record { first = s.place; second = suc m; apart = s.below; within = omega arith; same = s.holds }

    widen : ((k : ℕ) → k < suc m → f k ≡ f (suc m) → ⊥) → Twice (moved f m (f (suc m))) m → Twice f (suc m)
    widen none t = record {
      first = t.first;
      second = t.second;
      apart = t.apart;
      within = omega (arith, t.within);
      same =
          moved_same f m (f (suc m)) t.first t.second (none t.first (omega (arith, t.apart, t.within)))
          (none t.second (omega (arith, t.within))) t.same;
    }

    by_case : Found (λ k. f k ≡ f (suc m)) (suc m) ⊎ ((k : ℕ) → k < suc m → f k ≡ f (suc m) → ⊥)
        → ((g : ℕ → ℕ) → ((k : ℕ) → k ≤ m → g k < m) → Twice g m) → Twice f (suc m)
    by_case (inl s) smaller = found s
    by_case (inr none) smaller =
        widen none
        (smaller (moved f m (f (suc m)))
        (λ k low.
        moved_below f m (f (suc m)) k (fits k (omega arith)) (fits (suc m) (omega arith)) (none k (omega arith))))

-- a list of more than n numbers below n has one number at two places
pub record TwiceInList (xs : List ℕ) : Type 0 where
  pub first : ℕ
  pub second : ℕ
  pub apart : first < second
  pub within : second < length xs
  pub same : (d : ℕ) → get_or xs first d ≡ get_or xs second d

pub pigeons_list : (n : ℕ) (xs : List ℕ) → n < length xs → ((k : ℕ) → k < length xs → get_or xs k 0 < n)
    → TwiceInList xs
pigeons_list n xs long fits = from (pigeons n (λ k. get_or xs k 0) (λ k low. fits k (omega arith)))
  where
    from : Twice (λ k. get_or xs k 0) n → TwiceInList xs
    from t = record {
      first = t.first;
      second = t.second;
      apart = t.apart;
      within = omega (arith, t.within);
      same =
          λ d. get_or_default xs t.first d 0 (omega (arith, t.apart, t.within))
          ∙ t.same
          ∙ get_or_default xs t.second 0 d (omega (arith, t.within));
    }
