-- Choices with a side taken back.
--
--   remove_is        == an entry is removed
--   without_past     == no entry is removed behind the end
--   without_inserted == what was inserted is removed
--   without_is_choice == a choice without a side is a choice
--   side_without == where it has no side, the choice had none, or the one that was taken back
use Rattle.std.proofs.Common.{ℕ, zero, suc, ◌≡◌, ◌<◌, ◌≤◌, ◌==◌, ◌⊎◌, true, false, List, [], ◌∷◌, ◌++◌, length, get_or, take, drop, map, Some, None, inl, inr, ap, refl, ◌∙◌, arith}
use Rattle.std.proofs.lemmas.Bool.{cases_Bool, cond-false, eqb-true}
use Rattle.ml_lists.proofs.Entries.{cond-none}
use Rattle.ml_lists.specs.Member.{IsMember}
use Rattle.ml_sequent.specs.declared.choice.Side.{Side}
use Rattle.ml_sequent.specs.Choice.{IsChoice, side_of}
use Rattle.ml_sequent.specs.private.Trails.{without}

-- an entry is removed
pub remove_is : {X : Type 0} (i : ℕ) (xs : List X) → take i xs ++ drop (suc i) xs ≡ without i xs
remove_is zero [] = refl
remove_is (suc i) [] = refl
remove_is zero (x ∷ xs) = refl
remove_is (suc i) (x ∷ xs) = ap (λ ys. x ∷ ys) (remove_is i xs)

-- no entry is removed behind the end
pub without_past : {X : Type 0} (i : ℕ) (xs : List X) → length xs ≤ i → without i xs ≡ xs
without_past zero [] past = refl
without_past (suc i) [] past = refl
without_past zero (x ∷ xs) past = absurd (omega arith)
without_past (suc i) (x ∷ xs) past = ap (λ ys. x ∷ ys) (without_past i xs (omega arith))

-- what was inserted is removed
pub without_inserted : {X : Type 0} (i : ℕ) (x : X) (xs : List X) → i ≤ length xs → without i (take i xs ++ x ∷ drop i xs) ≡ xs
without_inserted zero x [] low = refl
without_inserted (suc i) x [] low = absurd (omega arith)
without_inserted zero x (y ∷ xs) low = refl
without_inserted (suc i) x (y ∷ xs) low = ap (λ ys. y ∷ ys) (without_inserted i x xs (omega arith))

-- a choice without a side is a choice
without_member : (i m : ℕ) (c : List (ℕ × Side)) → IsMember m (map (λ p. p.0) (without i c)) → IsMember m (map (λ p. p.0) c)
without_member zero m [] h = h
without_member (suc i) m [] h = h
without_member zero m (p ∷ c) h = inr h
without_member (suc i) m (p ∷ c) (inl e) = inl e
without_member (suc i) m (p ∷ c) (inr h) = inr (without_member i m c h)

pub without_is_choice : (i : ℕ) (c : List (ℕ × Side)) → IsChoice c → IsChoice (without i c)
without_is_choice zero [] is = is
without_is_choice (suc i) [] is = is
without_is_choice zero (p ∷ c) is = is.1
without_is_choice (suc i) (p ∷ c) is = ((λ m h. is.0 m (without_member i m c h)), without_is_choice i c is.1)

-- where it has no side, the choice had none, or the one that was taken back
pub side_without : (i : ℕ) (c : List (ℕ × Side)) (d : ℕ × Side) (n : ℕ) → i < length c → side_of (without i c) n ≡ None
    → (side_of c n ≡ None) ⊎ ((get_or c i d).0 ≡ n)
side_without i [] d n low none = absurd (omega arith)
side_without zero (p ∷ c) d n low none = by_test (cases_Bool (p.0 == n))
  where
    by_test : ((p.0 == n) ≡ true) ⊎ ((p.0 == n) ≡ false) → (side_of (p ∷ c) n ≡ None) ⊎ (p.0 ≡ n)
    by_test (inl test) = inr (eqb-true p.0 n test)
    by_test (inr test) = inl (cond-false (p.0 == n) (Some p.1) (side_of c n) test ∙ none)
side_without (suc i) (p ∷ c) d n low none =
    by_first (cond-none (p.0 == n) p.1 (side_of (without i c) n) none) (λ later. side_without i c d n (omega arith)
    later)
  where
    by_first : ((p.0 == n) ≡ false) × (side_of (without i c) n ≡ None)
        → (side_of (without i c) n ≡ None → (side_of c n ≡ None) ⊎ ((get_or c i d).0 ≡ n))
        → (side_of (p ∷ c) n ≡ None) ⊎ ((get_or c i d).0 ≡ n)
    by_first (test, later) rest = of (rest later)
      where
        of : (side_of c n ≡ None) ⊎ ((get_or c i d).0 ≡ n) → (side_of (p ∷ c) n ≡ None) ⊎ ((get_or c i d).0 ≡ n)
        of (inl before) = inl (cond-false (p.0 == n) (Some p.1) (side_of c n) test ∙ before)
        of (inr here) = inr here
