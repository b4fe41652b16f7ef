-- The numbers from one on, so many in a row, and their members.
--
--   in_range           == a member of the n numbers from a on is below a + n
--   range-member       == a member of the first n numbers is below n
--   member-range       == and a number below n is a member
--   range-more         == a range that is longer by one has its last number behind it
--   map-more, flat_map-more == so has what is made of it
use Rattle.std.proofs.Common.{ℕ, zero, suc, ◌≡◌, ◌+◌, ◌<◌, ◌∙◌, List, [], ◌∷◌, ◌++◌, map, ap, inl, inr, subst, arith, append-nil}
use Rattle.std.specs.List.{flat_map, range_with_len}
use Rattle.std.proofs.lemmas.List.{map-append}
use Rattle.std.proofs.lemmas.List.Concat.{flat_map-append}
use Rattle.std.proofs.lemmas.List.FromFn.{get_or-range_with_len, length-range_with_len}
use Rattle.ml_lists.specs.Member.{IsMember}
use Rattle.ml_lists.proofs.Member.{place-member}

pub in_range : (n a k : ℕ) → IsMember k (range_with_len a n) → k < a + n
in_range zero a k m = absurd m
in_range (suc n) a k (inl e) = omega arith
in_range (suc n) a k (inr m) = let low = in_range n (a + 1) k m in omega arith

pub range-member : (n k : ℕ) → IsMember k (range_with_len 0 n) → k < n
range-member n k m = let low = in_range n 0 k m in omega arith

pub member-range : (n k : ℕ) → k < n → IsMember k (range_with_len 0 n)
member-range n k low =
    let is : (0 + k) ≡ k = omega arith in
    subst (λ x. IsMember x (range_with_len 0 n)) (get_or-range_with_len 0 n k 0 low ∙ is)
    (place-member (range_with_len 0 n) k 0 (omega (arith, low, length-range_with_len 0 n)))

-- ---- ranges that are longer by one

range-suc : (a n : ℕ) → range_with_len a (suc n) ≡ range_with_len a n ++ (a + n) ∷ []
range-suc a zero = let at : a ≡ a + 0 = omega arith in ap (λ k. k ∷ []) at
range-suc a (suc n) =
    let at : (a + 1) + n ≡ a + suc n = omega arith in
    ap (λ xs. a ∷ xs) (range-suc (a + 1) n ∙ ap (λ k. range_with_len (a + 1) n ++ k ∷ []) at)

pub range-more : (n : ℕ) → range_with_len 0 (n + 1) ≡ range_with_len 0 n ++ n ∷ []
range-more n =
    let one : n + 1 ≡ suc n = omega arith in
    let at : 0 + n ≡ n = omega arith in
    ap (range_with_len 0) one ∙ range-suc 0 n ∙ ap (λ k. range_with_len 0 n ++ k ∷ []) at

pub map-more : {A : Type 0}
    → (f : ℕ → A) (n : ℕ)
    → map f (range_with_len 0 (n + 1)) ≡ map f (range_with_len 0 n) ++ f n ∷ []
map-more f n = ap (map f) (range-more n) ∙ map-append f (range_with_len 0 n) (n ∷ [])

pub flat_map-more : {A : Type 0} → (f : ℕ → List A) (n : ℕ)
    → flat_map f (range_with_len 0 (n + 1)) ≡ flat_map f (range_with_len 0 n) ++ f n
flat_map-more f n =
    ap (flat_map f) (range-more n)
    ∙ flat_map-append f (range_with_len 0 n) (n ∷ [])
    ∙ ap (λ xs. flat_map f (range_with_len 0 n) ++ xs) (append-nil (f n))
