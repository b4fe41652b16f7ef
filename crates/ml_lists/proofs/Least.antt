-- The least number that passes a test.
--
--   IsLeast test n x == x is the least number below n that passes
--   least-some       == an answer is the least number that passes
--   least-none       == with no answer, none below n passes
--   least-found      == where a number below n passes, there is an answer, and it is at most this number
--   least-is         == a number below n that passes, where no lower one does, is the answer
--   least-no         == where none below n passes, there is no answer
use Rattle.std.proofs.Common.{ℕ, zero, suc, ◌≡◌, ◌<◌, ◌≤◌, ◌⊎◌, inl, inr, arith, Bool, true, false, cond, Option, Some, None, refl, sym, subst, ap, ◌∙◌}
use Rattle.std.proofs.lemmas.Bool.{cases_Bool, cond-true, cond-false, cases_lt}
use Rattle.ml_lists.specs.Least.{least, first_answer}
use Rattle.ml_lists.proofs.Search.{all_below_suc}

-- x is the least number below n that passes
pub record IsLeast (test : ℕ → Bool) (n x : ℕ) : Type 0 where
  pub below : x < n
  pub passes : test x ≡ true
  pub first : (k : ℕ) → k < x → test k ≡ false

-- what the search for the least number below n says of its answer
abbrev pub Says : (ℕ → Bool) → ℕ → Option ℕ → Type 0
Says test n None = (k : ℕ) → k < n → test k ≡ false
Says test n (Some x) = IsLeast test n x

-- the search says so
pub least-says : (test : ℕ → Bool) (n : ℕ) → Says test n (least test n)
least-says test zero = λ k low. absurd (omega arith)
least-says test (suc n) = by_answer (least test n) (least-says test n) (cases_Bool (test n))
  where
    by_answer : (o : Option ℕ)
        → Says test n o
        → (test n ≡ true) ⊎ (test n ≡ false)
        → Says test (suc n) (first_answer o (cond (test n) (Some n) None))
    by_answer (Some x) s t = record { below = omega (arith, s.below); passes = s.passes; first = s.first }
    by_answer None s (inl t) =
        subst (Says test (suc n)) (sym (cond-true (test n) (Some n) None t))
        (record { below = omega arith; passes = t; first = s })
    by_answer None s (inr f) = subst (Says test (suc n)) (sym (cond-false (test n) (Some n) None f)) (all_below_suc (λ k. test k ≡ false) n s f)

-- an answer is the least number that passes
pub least-some : (test : ℕ → Bool) (n x : ℕ) → least test n ≡ Some x → IsLeast test n x
least-some test n x e = subst (Says test n) e (least-says test n)

-- with no answer, none below n passes
pub least-none : (test : ℕ → Bool) (n : ℕ) → least test n ≡ None → (k : ℕ) → k < n → test k ≡ false
least-none test n e = subst (Says test n) e (least-says test n)

-- the answer, at most k
pub record FoundBy (test : ℕ → Bool) (n k : ℕ) : Type 0 where
  pub answer : ℕ
  pub is : least test n ≡ Some answer
  pub at_most : answer ≤ k

-- where k below n passes, there is an answer, and it is at most k
pub least-found : (test : ℕ → Bool) (n k : ℕ) → k < n → test k ≡ true → FoundBy test n k
least-found test n k low passes = by_answer (least test n) refl
  where
    at_most : (x : ℕ) → IsLeast test n x → (k < x) ⊎ (x ≤ k) → x ≤ k
    at_most x l (inl early) = let wrong = l.first k early in absurd (cc)
    at_most x l (inr le) = le

    by_answer : (o : Option ℕ) → least test n ≡ o → FoundBy test n k
    by_answer None e = let wrong = least-none test n e k low in absurd (cc)
    by_answer (Some x) e = record { answer = x; is = e; at_most = at_most x (least-some test n x e) (cases_lt k x) }

-- a number below n that passes, where no lower one does, is the answer
pub least-is : (test : ℕ → Bool) (n x : ℕ)
    → x < n
    → test x ≡ true
    → ((k : ℕ) → k < x → test k ≡ false)
    → least test n ≡ Some x
least-is test n x low passes none = by_answer (least-found test n x low passes)
  where
    not_before : (y : ℕ) → IsLeast test n y → (y < x) ⊎ (x ≤ y) → x ≤ y
    not_before y l (inl early) = let a = none y early in let b = l.passes in absurd (cc)
    not_before y l (inr le) = le

    by_answer : FoundBy test n x → least test n ≡ Some x
    by_answer f =
        let le = not_before f.answer (least-some test n f.answer f.is) (cases_lt f.answer x) in
        let e : f.answer ≡ x = omega (arith, f.at_most) in
        f.is ∙ ap Some e

-- where none below n passes, there is no answer
pub least-no : (test : ℕ → Bool) (n : ℕ) → ((k : ℕ) → k < n → test k ≡ false) → least test n ≡ None
least-no test n none = by_answer (least test n) refl
  where
    by_answer : (o : Option ℕ) → least test n ≡ o → least test n ≡ None
    by_answer None e = e
    by_answer (Some x) e = let l = least-some test n x e in let f = none x l.below in let t = l.passes in absurd (cc)
