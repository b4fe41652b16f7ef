-- Numbers that come in turn: each new one is the next.
--
--   filter_both == one test after the other
--   runs_append == one run behind another one
--   runs_up     == a run doesn't go down
--   runs_has    == it has all numbers from the first new one on
--   in_turn     == a run from 0 has, each once, the numbers from 0 on
use Rattle.std.proofs.Common.{ℕ, suc, ◌≡◌, ◌+◌, ◌-◌, ◌<◌, ◌≤◌, ◌==◌, ◌&&◌, ◌⊎◌, inl, inr, Bool, true, false, not, nat_le, List, [], ◌∷◌, ◌++◌, filter, refl, sym, ap, ◌∙◌, subst, arith}
use Rattle.std.specs.List.{range_with_len}
use Rattle.std.proofs.lemmas.Bool.{cases_Bool, cases_eq, cond-true, cond-false}
use Rattle.std.proofs.lemmas.Bool.Decides.{nat_tests}
use Rattle.std.proofs.lemmas.List.Elements.{filter_agree}
use Rattle.ml_lists.specs.BreadthFirst.{each_once}
use Rattle.ml_lists.specs.Member.{IsMember}
use Rattle.ml_lists.specs.InTurn.{RunsOn}

-- one test after the other
pub filter_both : (t u : ℕ → Bool) (xs : List ℕ) → filter t (filter u xs) ≡ filter (λ y. u y && t y) xs
filter_both t u [] = refl
filter_both t u (x ∷ xs) = by_test (cases_Bool (u x)) (filter_both t u xs)
  where
    by_test : (u x ≡ true) ⊎ (u x ≡ false) → filter t (filter u xs) ≡ filter (λ y. u y && t y) xs
        → filter t (filter u (x ∷ xs)) ≡ filter (λ y. u y && t y) (x ∷ xs)
    by_test (inl yes_u) rest = ap (filter t) (cond-true (u x) (x ∷ filter u xs) (filter u xs) yes_u) ∙ by_second
        (cases_Bool (t x))
      where
        both : (t x ≡ true) → (u x && t x) ≡ true
        both yes_t = ap (λ b. b && t x) yes_u ∙ yes_t

        by_second : (t x ≡ true) ⊎ (t x ≡ false) → filter t (x ∷ filter u xs) ≡ filter (λ y. u y && t y) (x ∷ xs)
        by_second (inl yes_t) =
            cond-true (t x) (x ∷ filter t (filter u xs)) (filter t (filter u xs)) yes_t ∙ ap (λ zs. x ∷ zs) rest
            ∙ sym (cond-true (u x && t x) (x ∷ filter (λ y. u y && t y) xs) (filter (λ y. u y && t y) xs) (both yes_t))
        by_second (inr no_t) =
            cond-false (t x) (x ∷ filter t (filter u xs)) (filter t (filter u xs)) no_t ∙ rest
            ∙ sym (cond-false (u x && t x) (x ∷ filter (λ y. u y && t y) xs) (filter (λ y. u y && t y) xs)
            (ap (λ b. b && t x) yes_u ∙ no_t))
    by_test (inr no_u) rest =
        ap (filter t) (cond-false (u x) (x ∷ filter u xs) (filter u xs) no_u) ∙ rest
        ∙ sym (cond-false (u x && t x) (x ∷ filter (λ y. u y && t y) xs) (filter (λ y. u y && t y) xs)
        (ap (λ b. b && t x) no_u))

pub runs_append : (n m k : ℕ) (xs ys : List ℕ) → RunsOn n xs m → RunsOn m ys k → RunsOn n (xs ++ ys) k
runs_append n m k [] ys same rest = subst (λ i. RunsOn i ys k) (sym same) rest
runs_append n m k (x ∷ xs) ys (inl old) rest = inl (old.0, runs_append n m k xs ys old.1 rest)
runs_append n m k (x ∷ xs) ys (inr new) rest = inr (new.0, runs_append (n + 1) m k xs ys new.1 rest)

pub runs_up : (n m : ℕ) (xs : List ℕ) → RunsOn n xs m → n ≤ m
runs_up n m [] same = omega arith
runs_up n m (x ∷ xs) (inl old) = runs_up n m xs old.1
runs_up n m (x ∷ xs) (inr new) = omega (arith, runs_up (n + 1) m xs new.1)

pub runs_has : (n m : ℕ) (xs : List ℕ) → RunsOn n xs m → (k : ℕ) → n ≤ k → k < m → IsMember k xs
runs_has n m [] same k le low = absurd (omega arith)
runs_has n m (x ∷ xs) (inl old) k le low = inr (runs_has n m xs old.1 k le low)
runs_has n m (x ∷ xs) (inr new) k le low = by_case (cases_eq k n) (λ above. runs_has (n + 1) m xs new.1 k above low)
  where
    by_case : (k ≡ n) ⊎ (k ≡ n → ⊥) → (n + 1 ≤ k → IsMember k xs) → IsMember k (x ∷ xs)
    by_case (inl same) later = inl (same ∙ sym new.0)
    by_case (inr other) later = inr (later (omega arith))

-- the tests of those that are not below n, and not the one that was met
abbrev at_least : ℕ → ℕ → Bool
at_least n y = nat_le n y

abbrev other_than : ℕ → ℕ → Bool
other_than x y = not (y == x)

known : (n x y : ℕ) → x < n → (other_than x y && at_least n y) ≡ at_least n y
known n x y low = grind (arith, nat_tests)

first : (n x y : ℕ) → x ≡ n → (other_than x y && at_least n y) ≡ at_least (n + 1) y
first n x y is = grind (arith, nat_tests)

below_fails : (n x : ℕ) → x < n → at_least n x ≡ false
below_fails n x low = grind (arith, nat_tests)

at_passes : (n x : ℕ) → x ≡ n → at_least n x ≡ true
at_passes n x is = grind (arith, nat_tests)

range_more : (n m : ℕ) → n < m → range_with_len n (m - n) ≡ n ∷ range_with_len (n + 1) (m - (n + 1))
range_more n m low =
    let same : m - n ≡ suc (m - (n + 1)) = omega arith in
    ap (range_with_len n) same

-- the new ones, each once
new_once : (n m : ℕ) (xs : List ℕ) → RunsOn n xs m → filter (at_least n) (each_once xs) ≡ range_with_len n (m - n)
new_once n m [] same = let none : m - n ≡ 0 = omega arith in sym (ap (range_with_len n) none)
new_once n m (x ∷ xs) (inl old) =
    cond-false (at_least n x) (x ∷ filter (at_least n) (filter (other_than x) (each_once xs)))
    (filter (at_least n) (filter (other_than x) (each_once xs))) (below_fails n x old.0)
    ∙ filter_both (at_least n) (other_than x) (each_once xs)
    ∙ filter_agree (λ y. other_than x y && at_least n y) (at_least n) (λ y. known n x y old.0) (each_once xs)
    ∙ new_once n m xs old.1
new_once n m (x ∷ xs) (inr new) =
    let up = runs_up (n + 1) m xs new.1 in
    cond-true (at_least n x) (x ∷ filter (at_least n) (filter (other_than x) (each_once xs)))
    (filter (at_least n) (filter (other_than x) (each_once xs))) (at_passes n x new.0)
    ∙ ap (λ ys. x ∷ ys) (filter_both (at_least n) (other_than x) (each_once xs)
    ∙ filter_agree (λ y. other_than x y && at_least n y) (at_least (n + 1)) (λ y. first n x y new.0) (each_once xs)
    ∙ new_once (n + 1) m xs new.1)
    ∙ ap (λ k. k ∷ range_with_len (n + 1) (m - (n + 1))) new.0
    ∙ sym (range_more n m (omega arith))

passes_all : (xs : List ℕ) → filter (at_least 0) xs ≡ xs
passes_all [] = refl
passes_all (x ∷ xs) =
    let le : at_least 0 x ≡ true = grind (arith, nat_tests) in
    cond-true (at_least 0 x) (x ∷ filter (at_least 0) xs) (filter (at_least 0) xs) le ∙ ap (λ ys. x ∷ ys) (passes_all xs)

pub in_turn : (m : ℕ) (xs : List ℕ) → RunsOn 0 xs m → each_once xs ≡ range_with_len 0 m
in_turn m xs runs =
    let same : m - 0 ≡ m = omega arith in
    sym (passes_all (each_once xs)) ∙ new_once 0 m xs runs ∙ ap (range_with_len 0) same
