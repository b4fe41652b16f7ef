-- How many numbers below a bound pass a test.
--
--   passing            == the numbers below n that pass the test
--   length-passing     == there are as many as are counted
--   member-passing     == each number that passes is one of them
--   count_grows        == there are no fewer below a greater bound
--   count_one          == where all that pass are one number, at most one is counted
--   Chosen, chosen     == a number for each entry of a list, no number twice
use Rattle.std.proofs.Common.{ℕ, zero, suc, ◌≡◌, ◌<◌, ◌≤◌, ◌⊎◌, inl, inr, Bool, true, false, cond, List, [], ◌∷◌, length, refl, sym, ap, subst, ◌∙◌, arith}
use Rattle.std.proofs.lemmas.Bool.{cases_Bool, cases_eq, cond-true, cond-false}
use Rattle.ml_lists.specs.Counting.{count}
use Rattle.ml_lists.specs.Member.{IsMember}
use Rattle.ml_lists.proofs.Counting.{count-true, count-false, count_none}
use Rattle.ml_lists.proofs.FirstEntries.{AreApart}

abbrev pub passing : (ℕ → Bool) → ℕ → List ℕ
passing test zero = []
passing test (suc n) = cond (test n) (n ∷ passing test n) (passing test n)

pub length-passing : (test : ℕ → Bool) (n : ℕ) → length (passing test n) ≡ count test n
length-passing test zero = refl
length-passing test (suc n) = by_test (length-passing test n) (cases_Bool (test n))
  where
    by_test : length (passing test n) ≡ count test n
        → (test n ≡ true) ⊎ (test n ≡ false)
        → length (passing test (suc n)) ≡ count test (suc n)
    by_test rest (inl t) =
        ap length (cond-true (test n) (n ∷ passing test n) (passing test n) t) ∙ ap suc rest ∙ sym (count-true test n t)
    by_test rest (inr f) =
        ap length (cond-false (test n) (n ∷ passing test n) (passing test n) f) ∙ rest ∙ sym (count-false test n f)

pub member-passing : (test : ℕ → Bool) (n k : ℕ) → k < n → test k ≡ true → IsMember k (passing test n)
member-passing test zero k low t = absurd (omega arith)
member-passing test (suc n) k low t = by_place (cases_eq k n) (cases_Bool (test n)) (λ less. member-passing test n k less t)
  where
    here : IsMember k (n ∷ passing test n) → test n ≡ true → IsMember k (passing test (suc n))
    here m passes = subst (IsMember k) (sym (cond-true (test n) (n ∷ passing test n) (passing test n) passes)) m

    by_place : (k ≡ n) ⊎ (k ≡ n → ⊥)
        → (test n ≡ true) ⊎ (test n ≡ false)
        → (k < n → IsMember k (passing test n))
        → IsMember k (passing test (suc n))
    by_place (inl e) passes rest = here (inl e) (subst (λ j. test j ≡ true) e t)
    by_place (inr other) (inl passes) rest = here (inr (rest (omega arith))) passes
    by_place (inr other) (inr fails) rest =
        subst (IsMember k) (sym (cond-false (test n) (n ∷ passing test n) (passing test n) fails)) (rest (omega arith))

pub count_grows : (test : ℕ → Bool) (n : ℕ) → count test n ≤ count test (suc n)
count_grows test n = by_test (cases_Bool (test n))
  where
    by_test : (test n ≡ true) ⊎ (test n ≡ false) → count test n ≤ count test (suc n)
    by_test (inl t) = omega (arith, count-true test n t)
    by_test (inr f) = omega (arith, count-false test n f)

pub count_one : (test : ℕ → Bool) (n : ℕ)
    → ((i j : ℕ) → i < n → j < n → test i ≡ true → test j ≡ true → i ≡ j)
    → count test n ≤ 1
count_one test zero one = omega arith
count_one test (suc n) one =
    by_test (cases_Bool (test n)) (count_one test n (λ i j low less. one i j (omega (arith, low)) (omega (arith, less))))
  where
    other : test n ≡ true → (k : ℕ) → k < n → (test k ≡ true) ⊎ (test k ≡ false) → test k ≡ false
    other t k low (inl passes) = absurd (omega (arith, low, one k n (omega (arith, low)) (omega arith) passes t))
    other t k low (inr fails) = fails

    by_test : (test n ≡ true) ⊎ (test n ≡ false) → count test n ≤ 1 → count test (suc n) ≤ 1
    by_test (inl t) rest =
        omega (arith, count-true test n t, count_none test n (λ k low. other t k low (cases_Bool (test k))))
    by_test (inr f) rest = omega (arith, count-false test n f, rest)

pub record Chosen {X : Type 0} (R : X → ℕ → Type 0) (xs : List X) : Type 0 where
  pub numbers : List ℕ
  pub as_many : length numbers ≡ length xs
  pub apart : AreApart numbers
  pub taken : (n : ℕ) → IsMember n numbers → (x : X) × (IsMember x xs × R x n)

module _ {X : Type 0} (R : X → ℕ → Type 0) where
  chosen_more : (x : X) (xs : List X)
      → (IsMember x xs → ⊥)
      → ((y : X) (n : ℕ) → IsMember y xs → R x n → R y n → x ≡ y)
      → (n : ℕ)
      → R x n
      → Chosen R xs
      → Chosen R (x ∷ xs)
  chosen_more x xs new one n is c = record {
    numbers = n ∷ c.numbers;
    as_many = ap suc c.as_many;
    apart = ((λ inside. again (c.taken n inside)), c.apart);
    taken = λ k m. by_place k m;
  }
    where
      again : (y : X) × (IsMember y xs × R y n) → ⊥
      again y = new (subst (λ z. IsMember z xs) (sym (one y.0 n y.1.0 is y.1.1)) y.1.0)

      by_place : (k : ℕ) → (k ≡ n) ⊎ IsMember k c.numbers → (y : X) × (IsMember y (x ∷ xs) × R y k)
      by_place k (inl same) = (x, (inl refl, subst (R x) (sym same) is))
      by_place k (inr m) = let y = c.taken k m in (y.0, (inr y.1.0, y.1.1))

  pub chosen : (xs : List X)
      → AreApart xs
      → ((x : X) → IsMember x xs → (n : ℕ) × R x n)
      → ((x y : X) (n : ℕ) → IsMember x xs → IsMember y xs → R x n → R y n → x ≡ y)
      → Chosen R xs
  chosen [] apart pick one = record { numbers = []; as_many = refl; apart = tt; taken = λ n m. absurd m }
  chosen (x ∷ xs) apart pick one =
      let n = pick x (inl refl) in
      chosen_more x xs apart.0 (λ y k m. one x y k (inl refl) (inr m)) n.0 n.1
      (chosen xs apart.1 (λ y m. pick y (inr m)) (λ y z k m o. one y z k (inr m) (inr o)))
