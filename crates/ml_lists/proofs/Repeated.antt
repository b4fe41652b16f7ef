-- A list several times over.
--
--   repeated-add == j times and then k times is j + k times
--   repeated-one == once
--   repeated-two == twice
--   repeated-member, member-repeated == a list one or more times over has the members of the list
use Rattle.std.proofs.Common.{ℕ, zero, suc, ◌≡◌, ◌+◌, List, ◌++◌, ap, sym, ◌∙◌, append_assoc, arith, append-nil, ◌⊎◌, inl, inr, ◌≤◌}
use Rattle.ml_lists.specs.Member.{IsMember}
use Rattle.ml_lists.specs.Repeated.{repeated}
use Rattle.ml_lists.proofs.Member.{member-append, member-append_left}

-- j times and then k times is j + k times
pub repeated-add : {X : Type 0} → (j k : ℕ) (xs : List X) → repeated j xs ++ repeated k xs ≡ repeated (j + k) xs
repeated-add zero k xs = let e : k ≡ 0 + k = omega arith in ap (λ n. repeated n xs) e
repeated-add (suc j) k xs =
    let e : suc (j + k) ≡ suc j + k = omega arith in
    append_assoc xs (repeated j xs) (repeated k xs) ∙ ap (λ v. xs ++ v) (repeated-add j k xs) ∙ ap (λ n. repeated n xs) e

-- once over, the list is itself
pub repeated-one : {X : Type 0} → (xs : List X) → repeated 1 xs ≡ xs
repeated-one xs = append-nil xs

-- twice
pub repeated-two : {X : Type 0} → (xs : List X) → xs ++ xs ≡ repeated 2 xs
repeated-two xs = ap (λ v. xs ++ v) (sym (repeated-one xs))

-- a member of the list several times over is one of the list
pub repeated-member : {X : Type 0} → (x : X) (k : ℕ) (xs : List X) → IsMember x (repeated k xs) → IsMember x xs
repeated-member x zero xs m = absurd m
repeated-member x (suc k) xs m = by_part (member-append x xs (repeated k xs) m) (repeated-member x k xs)
  where
    by_part : IsMember x xs ⊎ IsMember x (repeated k xs) → (IsMember x (repeated k xs) → IsMember x xs) → IsMember x xs
    by_part (inl first) rest = first
    by_part (inr later) rest = rest later

-- and the other way round, one or more times over
pub member-repeated : {X : Type 0} → (x : X) (k : ℕ) (xs : List X) → 1 ≤ k → IsMember x xs → IsMember x (repeated k xs)
member-repeated x zero xs once m = absurd (omega arith)
member-repeated x (suc k) xs once m = member-append_left x xs (repeated k xs) m
