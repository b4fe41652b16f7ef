-- Propositions that are decided: each holds or fails.
--
--   Decided P                        == P holds, or it doesn't
--   decided_test                     == what a test tells is decided
--   decided_both, decided_either     == two together, and one of two
--   decided_same                     == what comes to the same as something decided
--   decided_less, decided_number     == the order and the equality of numbers
--   decided_bytes, decided_list      == the equality of lists of numbers, and of lists of elements whose equality is
--   decided_ordering                 == the equality with an ordering
--   decided_all                      == of all elements of a list, where it is decided of each
--   decided_sorted                   == that a list strictly ascends
use Rattle.std.proofs.Common.{◌≡◌, ℕ, ◌<◌, ◌≤◌, ◌⊎◌, Bool, true, false, List, [], ◌∷◌, All, Ordering, bytes_eq, drop, get_or, inl, inr, refl, sym, ap, ⊎_elim, arith}
use Rattle.std.specs.List.{AllByRecursion}
use Rattle.std.specs.List.Sorted.{IsStrictlySortedBy}
use Rattle.std.specs.declared.cmp.Ordering.TheVariants.{Less, Equal, Greater}
use Rattle.std.proofs.lemmas.Bool.{true≢false, cases_lt, cases_eq}
use Rattle.std.proofs.lemmas.List.Elements.{All-from_recursion, recursion_from_All}
use Rattle.std.proofs.lemmas.Slice.Eq.{bytes_eq-Decides}

abbrev pub Decided : Type 0 → Type 0
Decided P = P ⊎ (¬ P)

pub decided_test : (b : Bool) → Decided (b ≡ true)
decided_test true = inl refl
decided_test false = inr (λ e. true≢false (sym e))

pub decided_same : {P Q : Type 0} → (P → Q) → (Q → P) → Decided P → Decided Q
decided_same there back (inl p) = inl (there p)
decided_same there back (inr none) = inr (λ q. none (back q))

pub decided_both : {P Q : Type 0} → Decided P → Decided Q → Decided (P × Q)
decided_both (inl p) (inl q) = inl (p, q)
decided_both (inl p) (inr none) = inr (λ both. none both.1)
decided_both (inr none) q = inr (λ both. none both.0)

pub decided_either : {P Q : Type 0} → Decided P → Decided Q → Decided (P ⊎ Q)
decided_either (inl p) q = inl (inl p)
decided_either (inr none) (inl q) = inl (inr q)
decided_either (inr none) (inr neither) = inr (⊎_elim none neither)

pub decided_less : (m n : ℕ) → Decided (m < n)
decided_less m n = ⊎_elim (λ (h : m < n). inl h) (λ (h : n ≤ m). inr (λ less. omega arith)) (cases_lt m n)

pub decided_number : (m n : ℕ) → Decided (m ≡ n)
decided_number m n = cases_eq m n

pub decided_bytes : (xs ys : List ℕ) → Decided (xs ≡ ys)
decided_bytes xs ys =
    let test = bytes_eq-Decides xs ys in decided_same test.0 test.1 (decided_test (bytes_eq xs ys))

pub decided_ordering : (o p : Ordering) → Decided (o ≡ p)
decided_ordering Less Less = inl refl
decided_ordering Equal Equal = inl refl
decided_ordering Greater Greater = inl refl
decided_ordering Less Equal = inr (λ e. cc)
decided_ordering Less Greater = inr (λ e. cc)
decided_ordering Equal Less = inr (λ e. cc)
decided_ordering Equal Greater = inr (λ e. cc)
decided_ordering Greater Less = inr (λ e. cc)
decided_ordering Greater Equal = inr (λ e. cc)

module _ {X : Type 0} where
  pub decided_list : ((x y : X) → Decided (x ≡ y)) → (xs ys : List X) → Decided (xs ≡ ys)
  decided_list each [] [] = inl refl
  decided_list each [] (y ∷ ys) = inr (λ e. cc)
  decided_list each (x ∷ xs) [] = inr (λ e. cc)
  decided_list each (x ∷ xs) (y ∷ ys) =
      decided_same (λ (both : (x ≡ y) × (xs ≡ ys)) i. both.0 i ∷ both.1 i)
      (λ (same : x ∷ xs ≡ y ∷ ys). (ap (λ zs. get_or zs 0 x) same, ap (drop 1) same))
      (decided_both (each x y) (decided_list each xs ys))

  by_recursion : (P : X → Type 0) → ((x : X) → Decided (P x)) → (xs : List X) → Decided (AllByRecursion P xs)
  by_recursion P each [] = inl tt
  by_recursion P each (x ∷ xs) = decided_both (each x) (by_recursion P each xs)

  pub decided_all : (P : X → Type 0) → ((x : X) → Decided (P x)) → (xs : List X) → Decided (All P xs)
  decided_all P each xs = decided_same (All-from_recursion P xs) (recursion_from_All P xs) (by_recursion P each xs)

  pub decided_sorted : (R : X → X → Ordering) (xs : List X) → Decided (IsStrictlySortedBy R xs)
  unfolding IsStrictlySortedBy
  decided_sorted R [] = inl tt
  decided_sorted R (x ∷ xs) =
      decided_both (by_recursion (λ y. R x y ≡ Less) (λ y. decided_ordering (R x y) Less) xs) (decided_sorted R xs)
