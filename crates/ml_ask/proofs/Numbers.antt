-- The numbers of requirements, one after the other.
--
--   numbers_more, next_taken, next_left, next_left_out == with one item more
use Rattle.std.proofs.Common.{◌≡◌, ℕ, suc, ◌+◌, ◌<◌, ◌≤◌, ◌⊎◌, inl, inr, None, Some, slice_get, Bool, true, false, ◌&&◌}
use Rattle.std.proofs.Common.{cond, List, [], ◌∷◌, ◌++◌, get_or, length, take, sym, ap, ◌∙◌, arith, length-take}
use Rattle.std.proofs.lemmas.List.{append-nil, take_more}
use Rattle.std.proofs.lemmas.Option.{slice_get_cases}
use Rattle.ml_spec.specs.Kinds.{is_requirement}
use Rattle.ml_spec.specs.declared.specification.Item.{Item}
use Rattle.ml_replies.specs.Meeting.{numbers_from, numbers_in}

pub numbers_more : (S : ℕ → Bool) (n : ℕ) (xs : List Item) (x : Item)
    → numbers_from S n (xs ++ x ∷ [])
    ≡ numbers_from S n xs ++ cond (S (n + length xs) && is_requirement x.kind) ((n + length xs) ∷ []) []
numbers_more S n [] x =
    let same : n ≡ n + 0 = omega arith in ap (λ k. cond (S k && is_requirement x.kind) (k ∷ []) []) same
numbers_more S n (y ∷ ys) x =
    by (S n && is_requirement y.kind) (numbers_from S (n + 1) (ys ++ x ∷ [])) (numbers_from S (n + 1) ys)
    (numbers_more S (n + 1) ys x
    ∙ ap (λ k. numbers_from S (n + 1) ys ++ cond (S k && is_requirement x.kind) (k ∷ []) []) same)
  where
    same : n + 1 + length ys ≡ n + suc (length ys)
    same = omega arith

    by : (b : Bool) (whole rest : List ℕ)
        → whole ≡ rest ++ cond (S (n + suc (length ys)) && is_requirement x.kind) ((n + suc (length ys)) ∷ []) []
        → cond b (n ∷ whole) whole
        ≡ cond b (n ∷ rest) rest ++ cond (S (n + suc (length ys)) && is_requirement x.kind) ((n + suc (length ys)) ∷ []) []
    by true whole rest is = ap (λ ks. n ∷ ks) is
    by false whole rest is = is

module _ (S : ℕ → Bool) (xs : List Item) (i : ℕ) (x : Item) (within : i < length xs) (is : x ≡ get_or xs i x) where
  next : numbers_in S (take (i + 1) xs) ≡ numbers_in S (take i xs) ++ cond (S i && is_requirement x.kind) (i ∷ []) []
  next =
      let front = take_more xs i x within ∙ ap (λ y. take i xs ++ y ∷ []) (sym is) in
      let number : 0 + length (take i xs) ≡ i = omega (arith, length-take i xs) in
      ap (numbers_in S) front
      ∙ numbers_more S 0 (take i xs) x
      ∙ ap (λ k. numbers_in S (take i xs) ++ cond (S k && is_requirement x.kind) (k ∷ []) []) number

  pub next_taken : (S i && is_requirement x.kind) ≡ true → numbers_in S (take (i + 1) xs) ≡ numbers_in S (take i xs) ++ i ∷ []
  next_taken here = next ∙ ap (λ b. numbers_in S (take i xs) ++ cond b (i ∷ []) []) here

  pub next_left : (S i && is_requirement x.kind) ≡ false → numbers_in S (take (i + 1) xs) ≡ numbers_in S (take i xs)
  next_left other =
      next
      ∙ ap (λ b. numbers_in S (take i xs) ++ cond b (i ∷ []) []) other
      ∙ append-nil (numbers_in S (take i xs))

-- where an item isn't taken, whatever it is
pub next_left_out : (S : ℕ → Bool) (xs : List Item) (i : ℕ)
    → i < length xs
    → S i ≡ false
    → numbers_in S (take (i + 1) xs) ≡ numbers_in S (take i xs)
next_left_out S xs i within out = by (slice_get_cases xs i).1
  where
    by : ((x : Item) × (i < length xs) × (slice_get xs i ≡ Some x) × (get_or xs i x ≡ x))
        ⊎ ((length xs ≤ i) × (slice_get xs i ≡ None))
        → numbers_in S (take (i + 1) xs) ≡ numbers_in S (take i xs)
    by (inl (x, below, there, here)) = next_left S xs i x within (sym here) (ap (λ b. b && is_requirement x.kind) out)
    by (inr (past, none)) = absurd (omega arith)
