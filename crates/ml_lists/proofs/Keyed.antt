-- Entries that are found by a key, in lists that rise by it.
--
--   front_all, back_all == what holds within the front of a list holds of its members, and so for the back
--   front_member, back_member, cut_member == the members of a list are those of its front and of its back
--   lower_apart, key_between, higher_apart == where a list rises by a key, what stands before the entries with the key
--                    hasn't it, nor has what stands behind them, and they have it
--   members_at == behind all entries with lower keys, and before all with higher ones, stand those with the key
use Rattle.std.proofs.Common.{◌≡◌, ◌↔◌, ◌⊎◌, ℕ, ◌+◌, ◌<◌, ◌≤◌, true, false, ltb, leb, List, length, take, drop}
use Rattle.std.proofs.Common.{inl, inr, sym, ◌∙◌, subst, arith}
use Rattle.std.specs.List.{AllWithin}
use Rattle.std.specs.List.Sorted.{IsPartitionPoint}
use Rattle.std.proofs.lemmas.Bool.{ltb-true, ltb-false, leb-true, leb-false}
use Rattle.std.proofs.lemmas.List.{take-append-drop, get_or-take, get_or-drop, length-take-le, length-drop}
use Rattle.ml_lists.specs.Member.{IsMember}
use Rattle.ml_lists.proofs.Member.{member-place, member-append, member-append_left, member-append_right}

module _ {X : Type 0} where
  pub front_all : (P : X → Type 0) (xs : List X) (i : ℕ)
      → i ≤ length xs
      → AllWithin P xs 0 i
      → (x : X)
      → IsMember x (take i xs)
      → P x
  front_all P xs i le all x m =
      let p = member-place x (take i xs) m in
      let low : p.place < i = let b = p.below in let l = length-take-le i xs le in omega arith in
      subst P (sym (get_or-take i xs p.place x low) ∙ p.holds x) (all p.place x (omega arith) low)

  pub back_all : (P : X → Type 0) (xs : List X) (i : ℕ)
      → i ≤ length xs
      → AllWithin P xs i (length xs)
      → (x : X)
      → IsMember x (drop i xs)
      → P x
  back_all P xs i le all x m =
      let p = member-place x (drop i xs) m in
      let low : i + p.place < length xs = let b = p.below in let l = length-drop i xs in omega arith in
      subst P (sym (get_or-drop i xs p.place x) ∙ p.holds x) (all (i + p.place) x (omega arith) low)

  pub front_member : (x : X) (xs : List X) (i : ℕ) → IsMember x (take i xs) → IsMember x xs
  front_member x xs i m = subst (IsMember x) (take-append-drop i xs) (member-append_left x (take i xs) (drop i xs) m)

  pub back_member : (x : X) (xs : List X) (i : ℕ) → IsMember x (drop i xs) → IsMember x xs
  back_member x xs i m = subst (IsMember x) (take-append-drop i xs) (member-append_right x (take i xs) (drop i xs) m)

  pub cut_member : (x : X) (xs : List X) (i : ℕ) → IsMember x xs → IsMember x (take i xs) ⊎ IsMember x (drop i xs)
  cut_member x xs i m = member-append x (take i xs) (drop i xs) (subst (IsMember x) (sym (take-append-drop i xs)) m)

  module _ (n : X → ℕ) (xs rest : List X) (q i j : ℕ) (is : rest ≡ drop i xs) (le : i ≤ length xs)
      (one : IsPartitionPoint (λ x. ltb (n x) q ≡ true) (λ x. ltb (n x) q ≡ false) xs i)
      (le' : j ≤ length rest)
      (two : IsPartitionPoint (λ x. leb (n x) q ≡ true) (λ x. leb (n x) q ≡ false) rest j) where
    pub lower_apart : (x : X) → IsMember x (take i xs) → n x ≡ q → ⊥
    lower_apart x m e =
        let low = ltb-true (n x) q (front_all (λ y. ltb (n y) q ≡ true) xs i le one.0 x m) in
        omega arith

    pub higher_apart : (x : X) → IsMember x (drop j rest) → n x ≡ q → ⊥
    higher_apart x m e =
        let high = leb-false (n x) q (back_all (λ y. leb (n y) q ≡ false) rest j le' two.1 x m) in
        omega arith

    pub key_between : (x : X) → IsMember x (take j rest) → n x ≡ q
    key_between x m =
        let most = leb-true (n x) q (front_all (λ y. leb (n y) q ≡ true) rest j le' two.0 x m) in
        let least = ltb-false (n x) q (back_all (λ y. ltb (n y) q ≡ false) xs i le one.1 x
        (subst (IsMember x) is (front_member x rest j m))) in
        omega arith

  pub members_at : (n : X → ℕ) (xs rest : List X) (q i j : ℕ)
      → rest ≡ drop i xs
      → i ≤ length xs
      → IsPartitionPoint (λ x. ltb (n x) q ≡ true) (λ x. ltb (n x) q ≡ false) xs i
      → j ≤ length rest
      → IsPartitionPoint (λ x. leb (n x) q ≡ true) (λ x. leb (n x) q ≡ false) rest j
      → (x : X)
      → IsMember x (take j rest) ↔ (IsMember x xs × (n x ≡ q))
  members_at n xs rest q i j is le one le' two x = (
    λ m. (back_member x xs i (subst (IsMember x) is (front_member x rest j m)), key_between n xs rest q i j is le one le' two x m),
    λ h. behind_lower h.1 (cut_member x xs i h.0),
  )
    where
      before_higher : n x ≡ q → IsMember x (take j rest) ⊎ IsMember x (drop j rest) → IsMember x (take j rest)
      before_higher e (inl m) = m
      before_higher e (inr m) = absurd (higher_apart n xs rest q i j is le one le' two x m e)

      behind_lower : n x ≡ q → IsMember x (take i xs) ⊎ IsMember x (drop i xs) → IsMember x (take j rest)
      behind_lower e (inl m) = absurd (lower_apart n xs rest q i j is le one le' two x m e)
      behind_lower e (inr m) = before_higher e (cut_member x rest j (subst (IsMember x) (sym is) m))
