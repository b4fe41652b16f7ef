-- How often a number stands in a list, and how many entries of a list lead in front of a place.
--
--   times_here, times_other == one entry more
--   entry_counts, counts_entry == some entry passes a test exactly if the count is positive
--   before_next            == in front of the next place lead those in front of this one, and those that lead to it
--   before_same            == two rows with one part
use Rattle.std.proofs.Common.{ℕ, zero, suc, ◌≡◌, ◌+◌, ◌<◌, ◌≤◌, ◌⊎◌, inl, inr, ⊎_elim, Bool, true, false, cond, arith, List, [], ◌∷◌}
use Rattle.std.proofs.Common.{length, get_or, nat_eq, refl, ap, sym, ◌∙◌, zero-add, eq-eqb, ne_eqb, lt-ltb, le-ltb}
use Rattle.std.proofs.lemmas.Bool.{cases_eq, cases_lt, cases_Bool, cond-true, cond-false}
use Rattle.std.proofs.lemmas.List.{get_or_default}
use Rattle.std.proofs.lemmas.List.Sums.{sum_by-cons}
use Rattle.std.specs.List.{count_by, Contains}
use Rattle.std.proofs.Math.Path.{fun_ext}
use Rattle.ml_lists.specs.Found.{Found}
use Rattle.ml_parity.specs.private.Parts.{part}
use Rattle.ml_parity.specs.private.SolverSteps.{times}

-- one entry more, which passes
pub counts-true : (p : ℕ → Bool) (x : ℕ) (xs : List ℕ) → p x ≡ true → count_by p (x ∷ xs) ≡ 1 + count_by p xs
counts-true p x xs passes = sum_by-cons (λ y. cond (p y) 1 0) x xs
    ∙ ap (λ n. n + count_by p xs) (cond-true (p x) 1 0 passes)

-- one entry more, which fails
pub counts-false : (p : ℕ → Bool) (x : ℕ) (xs : List ℕ) → p x ≡ false → count_by p (x ∷ xs) ≡ count_by p xs
counts-false p x xs fails =
    sum_by-cons (λ y. cond (p y) 1 0) x xs ∙ ap (λ n. n + count_by p xs) (cond-false (p x) 1 0 fails)
    ∙ zero-add (count_by p xs)

-- the number itself
pub times_here : (v x : ℕ) (xs : List ℕ) → x ≡ v → times v (x ∷ xs) ≡ 1 + times v xs
times_here v x xs same = counts-true (λ y. nat_eq y v) x xs (eq-eqb x v same)

-- another number
pub times_other : (v x : ℕ) (xs : List ℕ) → (x ≡ v → ⊥) → times v (x ∷ xs) ≡ times v xs
times_other v x xs other = counts-false (λ y. nat_eq y v) x xs (ne_eqb x v other)

-- no more than with one entry more
pub counts_more : (p : ℕ → Bool) (x : ℕ) (xs : List ℕ) → count_by p xs ≤ count_by p (x ∷ xs)
counts_more p x xs = ⊎_elim (λ (t : p x ≡ true). omega (arith, counts-true p x xs t))
    (λ (f : p x ≡ false). omega (arith, counts-false p x xs f)) (cases_Bool (p x))

-- where an entry passes, the count is positive
pub entry_counts : (p : ℕ → Bool) (xs : List ℕ) (k : ℕ) → k < length xs → p (get_or xs k 0) ≡ true → 0 < count_by p xs
entry_counts p [] k low passes = absurd (omega arith)
entry_counts p (x ∷ xs) zero low passes = omega (arith, counts-true p x xs passes)
entry_counts p (x ∷ xs) (suc k) low passes = omega (arith, counts_more p x xs, entry_counts p xs k (omega arith) passes)

-- where the count is positive, some entry passes
pub counts_entry : (p : ℕ → Bool) (xs : List ℕ) → 0 < count_by p xs → Found (λ k. p (get_or xs k 0) ≡ true) (length xs)
counts_entry p [] some = absurd (omega arith)
counts_entry p (x ∷ xs) some = by_test (cases_Bool (p x)) (counts_entry p xs)
  where
    by_test : (p x ≡ true) ⊎ (p x ≡ false) → (0 < count_by p xs → Found (λ k. p (get_or xs k 0) ≡ true) (length xs))
        → Found (λ k. p (get_or (x ∷ xs) k 0) ≡ true) (length (x ∷ xs))
    by_test (inl t) rest = record { place = zero; below = omega arith; holds = t }
    by_test (inr f) rest =
        let found = rest (omega (arith, counts-false p x xs f)) in
        record { place = suc found.place; below = omega (arith, found.below); holds = found.holds }

-- a number that stands in the list is counted there
pub contains_counts : (p : ℕ → Bool) (xs : List ℕ) (x : ℕ) → Contains xs x → p x ≡ true → 0 < count_by p xs
contains_counts p xs x member passes =
    entry_counts p xs member.0 member.1 (ap p (get_or_default xs member.0 0 x member.1 ∙ member.2) ∙ passes)

-- in front of the next place lead those in front of this one, and those that lead to it
pub before_next : (place : ℕ → ℕ) (a w : ℕ) → place w ≡ a → ((x : ℕ) → place x ≡ a → x ≡ w) → (xs : List ℕ)
    → count_by (part place (a + 1)) xs ≡ count_by (part place a) xs + times w xs
before_next place a w here one [] = refl
before_next place a w here one (x ∷ xs) =
    by_place (cases_lt (place x) a) (cases_eq (place x) a) (before_next place a w here one xs)
  where
    by_place : (place x < a) ⊎ (a ≤ place x) → (place x ≡ a) ⊎ (place x ≡ a → ⊥)
        → count_by (part place (a + 1)) xs ≡ count_by (part place a) xs + times w xs
        → count_by (part place (a + 1)) (x ∷ xs) ≡ count_by (part place a) (x ∷ xs) + times w (x ∷ xs)
    by_place t (inl same) rest =
        let all = counts-true (part place (a + 1)) x xs (lt-ltb (place x) (a + 1) (omega arith)) in
        let front = counts-false (part place a) x xs (le-ltb (place x) a (omega arith)) in
        let at = times_here w x xs (one x same) in
        omega arith
    by_place (inl low) (inr other) rest =
        let all = counts-true (part place (a + 1)) x xs (lt-ltb (place x) (a + 1) (omega arith)) in
        let front = counts-true (part place a) x xs (lt-ltb (place x) a low) in
        let at = times_other w x xs (λ same. other (ap place same ∙ here)) in
        omega arith
    by_place (inr late) (inr other) rest =
        let later : a + 1 ≤ place x = ⊎_elim (λ (h : a < place x). omega arith)
        (λ (h : place x ≤ a). absurd (other (omega arith))) (cases_lt a (place x)) in
        let all = counts-false (part place (a + 1)) x xs (le-ltb (place x) (a + 1) later) in
        let front = counts-false (part place a) x xs (le-ltb (place x) a late) in
        let at = times_other w x xs (λ same. other (ap place same ∙ here)) in
        omega arith

-- two rows with one part
pub same_part : (place place2 : ℕ → ℕ) (a : ℕ)
    → ((v : ℕ) → place v < a → place2 v < a)
    → ((v : ℕ) → a ≤ place v → a ≤ place2 v)
    → part place2 a ≡ part place a
same_part place place2 a inside outside = fun_ext (λ v. by_place v (cases_lt (place v) a))
  where
    by_place : (v : ℕ) → (place v < a) ⊎ (a ≤ place v) → part place2 a v ≡ part place a v
    by_place v (inl low) = lt-ltb (place2 v) a (inside v low) ∙ sym (lt-ltb (place v) a low)
    by_place v (inr late) = le-ltb (place2 v) a (outside v late) ∙ sym (le-ltb (place v) a late)
