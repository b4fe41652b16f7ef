-- A choice with one side more.
--
--   side_with == a side of the choice with one more is that one, or was there before
--   side_new, side_kept == it has the new side, and what was chosen before
use Rattle.std.proofs.Common.{ℕ, ◌≡◌, ◌==◌, ◌⊎◌, inl, inr, Bool, true, false, cond, nat_lt, List, [], ◌∷◌, Option, Some, None, refl, sym, ap, ◌∙◌, subst, arith}
use Rattle.std.proofs.lemmas.Bool.{cases_Bool, cond-true, cond-false}
use Rattle.std.proofs.lemmas.Bool.Decides.{nat_tests}
use Rattle.ml_sequent.specs.declared.choice.Side.{Side}
use Rattle.ml_sequent.specs.Choice.{side_of, with_side}
use Rattle.ml_lists.proofs.Entries.{cond-none}

-- what the first pair of a choice says, or the later ones
first_or_later : (b : Bool) (x y : Side) (o : Option Side) → cond b (Some x) o ≡ Some y
    → ((b ≡ true) × (x ≡ y)) ⊎ ((b ≡ false) × (o ≡ Some y))
first_or_later true x y o e = inl (refl, let same : x ≡ y = cc in same)
first_or_later false x y o e = inr (refl, e)

-- a side of the choice with one more is that one, or was there before
pub side_with : (c : List (ℕ × Side)) (n : ℕ) (x : Side) (k : ℕ) (y : Side) → side_of (with_side c n x) k ≡ Some y
    → ((n ≡ k) × (x ≡ y)) ⊎ (side_of c k ≡ Some y)
side_with [] n x k y is = by_pair (first_or_later (n == k) x y None is)
  where
    by_pair : (((n == k) ≡ true) × (x ≡ y)) ⊎ (((n == k) ≡ false) × (None ≡ Some y))
        → ((n ≡ k) × (x ≡ y)) ⊎ (side_of [] k ≡ Some y)
    by_pair (inl h) = inl (let test = h.0 in (let same : n ≡ k = grind (arith, nat_tests) in same), h.1)
    by_pair (inr h) = inr h.1
side_with (p ∷ c) n x k y is = by_test (cases_Bool (nat_lt n p.0)) (side_with c n x k y)
  where
    in_front : (((n == k) ≡ true) × (x ≡ y)) ⊎ (((n == k) ≡ false) × (side_of (p ∷ c) k ≡ Some y))
        → ((n ≡ k) × (x ≡ y)) ⊎ (side_of (p ∷ c) k ≡ Some y)
    in_front (inl h) = inl (let test = h.0 in (let same : n ≡ k = grind (arith, nat_tests) in same), h.1)
    in_front (inr h) = inr h.1

    here_or_later : (((p.0 == k) ≡ true) × (p.1 ≡ y)) ⊎ (((p.0 == k) ≡ false) × (side_of (with_side c n x) k ≡ Some y))
        → (side_of (with_side c n x) k ≡ Some y → ((n ≡ k) × (x ≡ y)) ⊎ (side_of c k ≡ Some y))
        → ((n ≡ k) × (x ≡ y)) ⊎ (side_of (p ∷ c) k ≡ Some y)
    here_or_later (inl h) rest =
        inr (cond-true (p.0 == k) (Some p.1) (side_of c k) h.0 ∙ (let some : Some p.1 ≡ Some y = cc in some))
    here_or_later (inr h) rest = later (rest h.1)
      where
        later : ((n ≡ k) × (x ≡ y)) ⊎ (side_of c k ≡ Some y) → ((n ≡ k) × (x ≡ y)) ⊎ (side_of (p ∷ c) k ≡ Some y)
        later (inl e) = inl e
        later (inr e) = inr (cond-false (p.0 == k) (Some p.1) (side_of c k) h.0 ∙ e)

    by_test : (nat_lt n p.0 ≡ true) ⊎ (nat_lt n p.0 ≡ false)
        → (side_of (with_side c n x) k ≡ Some y → ((n ≡ k) × (x ≡ y)) ⊎ (side_of c k ≡ Some y))
        → ((n ≡ k) × (x ≡ y)) ⊎ (side_of (p ∷ c) k ≡ Some y)
    by_test (inl less) rest =
        let list = cond-true (nat_lt n p.0) ((n, x) ∷ p ∷ c) (p ∷ with_side c n x) less in
        in_front (first_or_later (n == k) x y (side_of (p ∷ c) k)
        (subst (λ (d : List (ℕ × Side)). side_of d k ≡ Some y) list is))
    by_test (inr more) rest =
        let list = cond-false (nat_lt n p.0) ((n, x) ∷ p ∷ c) (p ∷ with_side c n x) more in
        here_or_later (first_or_later (p.0 == k) p.1 y (side_of (with_side c n x) k)
        (subst (λ (d : List (ℕ × Side)). side_of d k ≡ Some y) list is)) rest

-- the choice with one side more has it
pub side_new : (c : List (ℕ × Side)) (n : ℕ) (x : Side) → side_of c n ≡ None → side_of (with_side c n x) n ≡ Some x
side_new [] n x none =
    let test : (n == n) ≡ true = grind (arith, nat_tests) in
    cond-true (n == n) (Some x) None test
side_new (p ∷ c) n x none =
    by_test (cases_Bool (nat_lt n p.0)) (cond-none (p.0 == n) p.1 (side_of c n) none) (side_new c n x)
  where
    by_test : (nat_lt n p.0 ≡ true) ⊎ (nat_lt n p.0 ≡ false)
        → ((p.0 == n) ≡ false) × (side_of c n ≡ None)
        → (side_of c n ≡ None → side_of (with_side c n x) n ≡ Some x)
        → side_of (with_side (p ∷ c) n x) n ≡ Some x
    by_test (inl less) other rest =
        let test : (n == n) ≡ true = grind (arith, nat_tests) in
        ap (λ (d : List (ℕ × Side)). side_of d n) (cond-true (nat_lt n p.0) ((n, x) ∷ p ∷ c) (p ∷ with_side c n x) less)
        ∙ cond-true (n == n) (Some x) (side_of (p ∷ c) n) test
    by_test (inr more) other rest =
        ap (λ (d : List (ℕ × Side)). side_of d n)
        (cond-false (nat_lt n p.0) ((n, x) ∷ p ∷ c) (p ∷ with_side c n x) more)
        ∙ cond-false (p.0 == n) (Some p.1) (side_of (with_side c n x) n) other.0
        ∙ rest other.1

-- and what was chosen before
pub side_kept : (c : List (ℕ × Side)) (n : ℕ) (x : Side) (k : ℕ) (y : Side) → side_of c n ≡ None → side_of c k ≡ Some y
    → side_of (with_side c n x) k ≡ Some y
side_kept [] n x k y none is = cc
side_kept (p ∷ c) n x k y none is =
    by_test (cases_Bool (nat_lt n p.0)) (cond-none (p.0 == n) p.1 (side_of c n) none) (side_kept c n x k y)
  where
    apart : (n == k) ≡ false
    apart = by_eq (cases_Bool (n == k))
      where
        by_eq : ((n == k) ≡ true) ⊎ ((n == k) ≡ false) → (n == k) ≡ false
        by_eq (inr e) = e
        by_eq (inl e) =
            let same : n ≡ k = grind (arith, nat_tests) in
            let both = sym none ∙ ap (side_of (p ∷ c)) same ∙ is in
            absurd (cc)

    later : (d : List (ℕ × Side)) → (side_of c k ≡ Some y → side_of d k ≡ Some y) → side_of (p ∷ d) k ≡ Some y
    later d rest = by_pair (first_or_later (p.0 == k) p.1 y (side_of c k) is)
      where
        by_pair : (((p.0 == k) ≡ true) × (p.1 ≡ y)) ⊎ (((p.0 == k) ≡ false) × (side_of c k ≡ Some y))
            → side_of (p ∷ d) k ≡ Some y
        by_pair (inl h) = cond-true (p.0 == k) (Some p.1) (side_of d k) h.0 ∙ ap Some h.1
        by_pair (inr h) = cond-false (p.0 == k) (Some p.1) (side_of d k) h.0 ∙ rest h.1

    by_test : (nat_lt n p.0 ≡ true) ⊎ (nat_lt n p.0 ≡ false)
        → ((p.0 == n) ≡ false) × (side_of c n ≡ None)
        → (side_of c n ≡ None → side_of c k ≡ Some y → side_of (with_side c n x) k ≡ Some y)
        → side_of (with_side (p ∷ c) n x) k ≡ Some y
    by_test (inl less) other rest =
        ap (λ (d : List (ℕ × Side)). side_of d k) (cond-true (nat_lt n p.0) ((n, x) ∷ p ∷ c) (p ∷ with_side c n x) less)
        ∙ cond-false (n == k) (Some x) (side_of (p ∷ c) k) apart
        ∙ is
    by_test (inr more) other rest =
        ap (λ (d : List (ℕ × Side)). side_of d k)
        (cond-false (nat_lt n p.0) ((n, x) ∷ p ∷ c) (p ∷ with_side c n x) more)
        ∙ later (with_side c n x) (rest other.1)
