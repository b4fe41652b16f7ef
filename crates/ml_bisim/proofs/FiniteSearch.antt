-- Lists of a given length whose entries come from finitely many: that one of them has a property is decided. (General; it
-- would belong to `ml_lists`.)
--
--   AreEach Ok k xs  == xs has k entries, each with the property Ok
--   some_list        == that such a list has a property is decided, where it is decided that some entry has one
--   some_bool        == so it is of truth values
--   mapped           == the images of a range are such a list
use Rattle.std.proofs.Common.{ℕ, zero, suc, ◌+◌, Bool, List, [], ◌∷◌, map}
use Rattle.std.specs.List.{range_with_len}
use Rattle.ml_lists.proofs.Decided.{Decided, decided_same}
use Rattle.ml_lists.proofs.Deciding.{some_truth}

abbrev pub AreEach : {X : Type 0} → (X → Type 0) → ℕ → List X → Type 0
AreEach Ok zero [] = Unit {0}
AreEach Ok (suc k) (x ∷ xs) = Ok x × AreEach Ok k xs
AreEach Ok _ _ = ⊥

pub mapped : {X : Type 0} (Ok : X → Type 0) (f : ℕ → X) → ((i : ℕ) → Ok (f i)) → (a n : ℕ)
    → AreEach Ok n (map f (range_with_len a n))
mapped Ok f each a zero = tt
mapped Ok f each a (suc n) = (each a, mapped Ok f each (a + 1) n)

pub some_bool : (P : Bool → Type 0) → ((b : Bool) → Decided (P b)) → Decided ((b : Bool) × (Unit {0} × P b))
some_bool P each = decided_same (λ found. (found.0, (tt, found.1))) (λ found. (found.0, found.1.1)) (some_truth P each)

module _ {X : Type 0} (Ok : X → Type 0)
    (some : (P : X → Type 0) → ((x : X) → Decided (P x)) → Decided ((x : X) × (Ok x × P x))) where
  Some : ℕ → (List X → Type 0) → Type 0
  Some k P = (xs : List X) × (AreEach Ok k xs × P xs)

  of_none : (P : List X → Type 0) → Some zero P → P []
  unfolding Some
  of_none P ([], both) = both.1
  of_none P (x ∷ xs, both) = absurd both.0

  there : (k : ℕ) (P : List X → Type 0) → (x : X) × (Ok x × Some k (λ xs. P (x ∷ xs))) → Some (suc k) P
  unfolding Some
  there k P (x, both) = (x ∷ both.1.0, ((both.0, both.1.1.0), both.1.1.1))

  back : (k : ℕ) (P : List X → Type 0) → Some (suc k) P → (x : X) × (Ok x × Some k (λ xs. P (x ∷ xs)))
  unfolding Some
  back k P ([], both) = absurd both.0
  back k P (x ∷ xs, both) = (x, (both.0.0, (xs, (both.0.1, both.1))))

  pub some_list : (k : ℕ) (P : List X → Type 0) → ((xs : List X) → Decided (P xs))
      → Decided ((xs : List X) × (AreEach Ok k xs × P xs))
  unfolding Some
  some_list zero P each = decided_same (λ p. ([], (tt, p))) (of_none P) (each [])
  some_list (suc k) P each =
      decided_same (there k P) (back k P)
      (some (λ x. Some k (λ xs. P (x ∷ xs))) (λ x. some_list k (λ xs. P (x ∷ xs)) (λ xs. each (x ∷ xs))))
