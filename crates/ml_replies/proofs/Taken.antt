-- Sets of requirements, as lists that tell of each item whether it is among them, and how many they have.
--
--   filled          == a list of the same answer, one longer
--   all_told        == where each number is told to be taken, all items' are
--   past_end        == no number past the end is in a list's set
--   left_same       == a number set to false is left out
--   flags S n       == the list that tells of the numbers below n whether they are in S
--   flags_are       == so it does
--   some_or_none    == some number is in a list's set, or none is
--   count S n       == how many numbers below n are in S
--   count_less      == it is less where one of them is left out
use Rattle.std.proofs.Common.{◌≡◌, ℕ, zero, suc, ◌+◌, ◌<◌, ◌≤◌, ◌⊎◌, ◌==◌, inl, inr, Bool, true, false, not, ◌&&◌}
use Rattle.std.proofs.Common.{cond, List, [], ◌∷◌, ◌++◌, get_or, length, replicate, set, refl, sym, ap, ◌∙◌, arith}
use Rattle.std.proofs.lemmas.List.{get_or-replicate, get_or-set_other, get_or-set_same}
use Rattle.std.proofs.lemmas.Bool.{and_parts, cases_eq, eqb-false, eqb-true}
use Rattle.ml_spec.specs.Questions.{is_in}
use Rattle.ml_replies.specs.Meeting.{without}

-- ---- lists of one answer

pub filled : (n : ℕ) (b : Bool) → replicate n b ++ b ∷ [] ≡ replicate (n + 1) b
filled n b = go n ∙ ap (λ k. replicate k b) (add_one n)
  where
    go : (k : ℕ) → replicate k b ++ b ∷ [] ≡ replicate (suc k) b
    go zero = refl
    go (suc k) = ap (λ bs. b ∷ bs) (go k)

    add_one : (k : ℕ) → suc k ≡ k + 1
    add_one k = omega arith

pub all_told : (n : ℕ) (all : List Bool) → all ≡ replicate n true → (k : ℕ) → k < n → is_in all k ≡ true
all_told n all are k below = ap (λ bs. get_or bs k false) are ∙ get_or-replicate n k true false below

pub none_told : (n : ℕ) (k : ℕ) → is_in (replicate n false) k ≡ false
none_told zero k = refl
none_told (suc n) zero = refl
none_told (suc n) (suc k) = none_told n k

pub past_end : (bs : List Bool) (k : ℕ) → is_in bs k ≡ true → k < length bs
past_end [] k taken = let e : false ≡ true = taken in cc
past_end (b ∷ bs) zero taken = omega arith
past_end (b ∷ bs) (suc k) taken = omega (arith, past_end bs k taken)

-- ---- one left out

pub left_same : (bs : List Bool) (k : ℕ) → k < length bs → is_in (set bs k false) ≡ without (is_in bs) k
left_same bs k within = λ i n. (at n) i
  where
    by : (n : ℕ) (b : Bool) → (n == k) ≡ b → is_in (set bs k false) n ≡ is_in bs n && not b
    by n true e =
        let same : n ≡ k = eqb-true n k e in
        ap (λ m. get_or (set bs k false) m false) same
        ∙ get_or-set_same bs k false false within
        ∙ sym (and_false (get_or bs n false))
      where
        and_false : (c : Bool) → (c && false) ≡ false
        and_false true = refl
        and_false false = refl
    by n false e =
        get_or-set_other bs k n false false (λ same. eqb-false n k e same) ∙ sym (and_true (get_or bs n false))
      where
        and_true : (c : Bool) → (c && true) ≡ c
        and_true true = refl
        and_true false = refl

    at : (n : ℕ) → is_in (set bs k false) n ≡ without (is_in bs) k n
    at n = by n (n == k) refl

-- ---- a set as a list

abbrev pub flags_from : (ℕ → Bool) → ℕ → ℕ → List Bool
flags_from S k zero = []
flags_from S k (suc n) = S k ∷ flags_from S (k + 1) n

abbrev pub flags : (ℕ → Bool) → ℕ → List Bool
flags S n = flags_from S 0 n

length_from : (S : ℕ → Bool) (k n : ℕ) → length (flags_from S k n) ≡ n
length_from S k zero = refl
length_from S k (suc n) = ap suc (length_from S (k + 1) n)

pub length-flags : (S : ℕ → Bool) (n : ℕ) → length (flags S n) ≡ n
length-flags S n = length_from S 0 n

from_are : (S : ℕ → Bool) (k n i : ℕ) → i < n → is_in (flags_from S k n) i ≡ S (k + i)
from_are S k zero i below = absurd (omega (arith, below))
from_are S k (suc n) zero below = let e : k ≡ k + 0 = omega arith in ap S e
from_are S k (suc n) (suc i) below =
    let e : k + 1 + i ≡ k + suc i = omega arith in from_are S (k + 1) n i (omega (arith, below)) ∙ ap S e

pub flags_are : (S : ℕ → Bool) (n i : ℕ) → i < n → is_in (flags S n) i ≡ S i
flags_are S n i below = let e : 0 + i ≡ i = omega arith in from_are S 0 n i below ∙ ap S e

pub flags_among : (S : ℕ → Bool) (n i : ℕ) → is_in (flags S n) i ≡ true → S i ≡ true
flags_among S n i taken =
    let below : i < n = omega (arith, past_end (flags S n) i taken, length-flags S n) in
    sym (flags_are S n i below) ∙ taken

-- ---- some, or none

pub some_or_none : (bs : List Bool) → ((k : ℕ) × (is_in bs k ≡ true)) ⊎ ((k : ℕ) → is_in bs k ≡ false)
some_or_none [] = inr (λ k. refl)
some_or_none (true ∷ bs) = inl (0, refl)
some_or_none (false ∷ bs) = by (some_or_none bs)
  where
    by : ((k : ℕ) × (is_in bs k ≡ true)) ⊎ ((k : ℕ) → is_in bs k ≡ false)
        → ((k : ℕ) × (is_in (false ∷ bs) k ≡ true)) ⊎ ((k : ℕ) → is_in (false ∷ bs) k ≡ false)
    by (inl (k, taken)) = inl (suc k, taken)
    by (inr none) = inr at
      where
        at : (k : ℕ) → is_in (false ∷ bs) k ≡ false
        at zero = refl
        at (suc k) = none k

-- ---- how many

abbrev pub count : (ℕ → Bool) → ℕ → ℕ
count S zero = 0
count S (suc n) = cond (S n) 1 0 + count S n

one_most : (b c : Bool) → (c ≡ true → b ≡ true) → cond c 1 0 ≤ cond b 1 0
one_most true true fewer = omega arith
one_most true false fewer = omega arith
one_most false false fewer = omega arith
one_most false true fewer = let e : false ≡ true = fewer refl in absurd (cc)

pub count_most : (S T : ℕ → Bool) (n : ℕ) → ((k : ℕ) → T k ≡ true → S k ≡ true) → count T n ≤ count S n
count_most S T zero fewer = omega arith
count_most S T (suc n) fewer = omega (arith, one_most (S n) (T n) (fewer n), count_most S T n fewer)

pub count_less : (S T : ℕ → Bool) (n k : ℕ)
    → ((j : ℕ) → T j ≡ true → S j ≡ true)
    → k < n
    → S k ≡ true
    → T k ≡ false
    → count T n < count S n
count_less S T zero k fewer below one none = absurd (omega (arith, below))
count_less S T (suc n) k fewer below one none = by (cases_eq k n) (λ low. count_less S T n k fewer low one none)
  where
    by : (k ≡ n) ⊎ (¬ (k ≡ n)) → (k < n → count T n < count S n) → count T (suc n) < count S (suc n)
    by (inl here) again =
        let more : cond (S n) (suc 0) 0 ≡ suc 0 = ap (λ b. cond b (suc 0) 0) (ap S (sym here) ∙ one) in
        let less : cond (T n) (suc 0) zero ≡ zero = ap (λ b. cond b (suc 0) zero) (ap T (sym here) ∙ none) in
        omega (arith, more, less, count_most S T n fewer)
    by (inr other) again =
        omega (arith, one_most (S n) (T n) (fewer n), again (omega (arith, below, other)))

-- ---- less one

pub without_fewer : (S : ℕ → Bool) (k j : ℕ) → without S k j ≡ true → S j ≡ true
without_fewer S k j taken = (and_parts (S j) (not (j == k)) taken).0

pub without_one : (S : ℕ → Bool) (k : ℕ) → without S k k ≡ false
without_one S k = by (k == k) refl
  where
    by : (b : Bool) → (k == k) ≡ b → S k && not b ≡ false
    by true e = and_false (S k)
      where
        and_false : (c : Bool) → (c && false) ≡ false
        and_false true = refl
        and_false false = refl
    by false e = absurd (eqb-false k k e refl)
