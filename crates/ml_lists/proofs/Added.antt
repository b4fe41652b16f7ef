-- Lists to which something was added, if it wasn't there.
--
--   added       == so is what a table has behind an insertion
--   last_or     == what stands in a list with one thing more stands in the list, or is that thing
--   added_all   == what is true of each of the list, and of the thing, is true of each behind it
--   added_once  == a list without repeats has none behind it
--   added_long  == it has one thing more at most
--   added_early == a thing with a place in the list was there
--   added_keeps, added_get == what stands in the list stays where it is
--   added_runs  == the thing has the number of an earlier one, or the next number
use Rattle.std.proofs.Common.{ℕ, zero, suc, ◌≡◌, ◌+◌, ◌<◌, ◌≤◌, ◌⊎◌, inl, inr, Bool, true, false, if◌then◌else◌, List, [], ◌∷◌, ◌++◌}
use Rattle.std.proofs.Common.{length, length-append, slice_get, get_or, Some, refl, sym, ap, ◌∙◌, subst, arith, true≢false}
use Rattle.std.proofs.lemmas.Bool.{cases_Bool, cond-true, cond-false}
use Rattle.std.proofs.lemmas.List.{get_or_append_left}
use Rattle.std.proofs.lemmas.Option.{slice_get_within}
use Rattle.std.specs.List.{list_any}
use Rattle.ml_lists.specs.Added.{IsAdded, HasOnePlace}
use Rattle.ml_lists.specs.InTurn.{RunsOn}
use Rattle.ml_lists.specs.Member.{IsMember}
use Rattle.ml_lists.proofs.Member.{member-list_any, member_of_get}

module _ {X : Type 0} (eq : X → X → Bool) (same : (x y : X) → eq x y ≡ true → x ≡ y) (own : (x : X) → eq x x ≡ true) where
  -- what a table has behind an insertion
  pub added : (xs ys : List X) (x : X) (i : ℕ)
      → ys ≡ (if list_any (eq x) xs then xs else xs ++ x ∷ [])
      → ((k : X) × (slice_get ys i ≡ Some k) × (eq x k ≡ true))
      → IsAdded xs x ys i
  added xs ys x i keys (k, stands, equal) = record {
    stands = stands ∙ ap Some (sym (same x k equal));
    grown = by_test (cases_Bool (list_any (eq x) xs));
  }
    where
      by_test : (list_any (eq x) xs ≡ true) ⊎ (list_any (eq x) xs ≡ false)
          → (ys ≡ xs) ⊎ ((ys ≡ xs ++ x ∷ []) × ¬ (IsMember x xs))
      by_test (inl there) = inl (keys ∙ cond-true (list_any (eq x) xs) xs (xs ++ x ∷ []) there)
      by_test (inr new) = inr (
        keys ∙ cond-false (list_any (eq x) xs) xs (xs ++ x ∷ []) new,
        λ m. true≢false (sym (member-list_any (eq x) x xs m (own x)) ∙ new),
      )

module _ {X : Type 0} where
  -- what stands in a list with one thing more
  pub last_or : (xs : List X) (x y : X) (k : ℕ)
      → slice_get (xs ++ x ∷ []) k ≡ Some y
      → (slice_get xs k ≡ Some y) ⊎ ((k ≡ length xs) × (y ≡ x))
  last_or [] x y zero e = inr (refl, cc)
  last_or [] x y (suc k) e = cc
  last_or (z ∷ xs) x y zero e = inl e
  last_or (z ∷ xs) x y (suc k) e = later (last_or xs x y k e)
    where
      later : (slice_get xs k ≡ Some y) ⊎ ((k ≡ length xs) × (y ≡ x))
          → (slice_get (z ∷ xs) (suc k) ≡ Some y) ⊎ ((suc k ≡ length (z ∷ xs)) × (y ≡ x))
      later (inl there) = inl there
      later (inr end) = inr (ap suc end.0, end.1)

  module _ (xs ys : List X) (x : X) (i : ℕ) (a : IsAdded xs x ys i) where
    -- what is true of each of the list, and of the thing
    pub added_all : (P : X → Type 0) → ((k : ℕ) (y : X) → slice_get xs k ≡ Some y → P y) → P x
        → (k : ℕ) (y : X) → slice_get ys k ≡ Some y → P y
    added_all P all here k y at = by_kind a.grown
      where
        by_place : (slice_get xs k ≡ Some y) ⊎ ((k ≡ length xs) × (y ≡ x)) → P y
        by_place (inl there) = all k y there
        by_place (inr end) = subst P (sym end.1) here

        by_kind : (ys ≡ xs) ⊎ ((ys ≡ xs ++ x ∷ []) × ¬ (IsMember x xs)) → P y
        by_kind (inl old) = all k y (subst (λ zs. slice_get zs k ≡ Some y) old at)
        by_kind (inr new) = by_place (last_or xs x y k (subst (λ zs. slice_get zs k ≡ Some y) new.0 at))

    -- a list without repeats has none behind it
    pub added_once : HasOnePlace xs → HasOnePlace ys
    added_once once j k y at_j at_k = by_kind a.grown
      where
        by_places : ¬ (IsMember x xs)
            → (slice_get xs j ≡ Some y) ⊎ ((j ≡ length xs) × (y ≡ x))
            → (slice_get xs k ≡ Some y) ⊎ ((k ≡ length xs) × (y ≡ x))
            → j ≡ k
        by_places new (inl p) (inl q) = once j k y p q
        by_places new (inl p) (inr q) = absurd (new (subst (λ z. IsMember z xs) q.1 (member_of_get xs j y p)))
        by_places new (inr p) (inl q) = absurd (new (subst (λ z. IsMember z xs) p.1 (member_of_get xs k y q)))
        by_places new (inr p) (inr q) = p.0 ∙ sym q.0

        by_kind : (ys ≡ xs) ⊎ ((ys ≡ xs ++ x ∷ []) × ¬ (IsMember x xs)) → j ≡ k
        by_kind (inl old) =
            once j k y (subst (λ zs. slice_get zs j ≡ Some y) old at_j) (subst (λ zs. slice_get zs k ≡ Some y) old at_k)
        by_kind (inr new) =
            by_places new.1
            (last_or xs x y j (subst (λ zs. slice_get zs j ≡ Some y) new.0 at_j))
            (last_or xs x y k (subst (λ zs. slice_get zs k ≡ Some y) new.0 at_k))

    -- it has one thing more at most
    pub added_long : (length xs ≤ length ys) × (length ys ≤ length xs + 1)
    added_long = by_kind a.grown
      where
        by_kind : (ys ≡ xs) ⊎ ((ys ≡ xs ++ x ∷ []) × ¬ (IsMember x xs))
            → (length xs ≤ length ys) × (length ys ≤ length xs + 1)
        by_kind (inl old) = let e = ap length old in (omega arith, omega arith)
        by_kind (inr new) =
            let e : length ys ≡ length xs + 1 = ap length new.0 ∙ length-append xs (x ∷ []) in (omega arith, omega arith)

    -- a thing with a place in the list was there
    pub added_early : i < length xs → ys ≡ xs
    added_early low = by_kind a.grown
      where
        by_place : ¬ (IsMember x xs) → (slice_get xs i ≡ Some x) ⊎ ((i ≡ length xs) × (x ≡ x)) → ys ≡ xs
        by_place new (inl there) = absurd (new (member_of_get xs i x there))
        by_place new (inr end) = let e = end.0 in absurd (omega arith)

        by_kind : (ys ≡ xs) ⊎ ((ys ≡ xs ++ x ∷ []) × ¬ (IsMember x xs)) → ys ≡ xs
        by_kind (inl old) = old
        by_kind (inr new) = by_place new.1 (last_or xs x x i (subst (λ zs. slice_get zs i ≡ Some x) new.0 a.stands))

    -- what stands in the list stays where it is
    pub added_keeps : (k : ℕ) (y : X) → slice_get xs k ≡ Some y → slice_get ys k ≡ Some y
    added_keeps k y at = by_kind a.grown
      where
        earlier : (us : List X) (n : ℕ) → slice_get us n ≡ Some y → slice_get (us ++ x ∷ []) n ≡ Some y
        earlier [] n e = absurd (cc)
        earlier (u ∷ us) zero e = e
        earlier (u ∷ us) (suc n) e = earlier us n e

        by_kind : (ys ≡ xs) ⊎ ((ys ≡ xs ++ x ∷ []) × ¬ (IsMember x xs)) → slice_get ys k ≡ Some y
        by_kind (inl old) = ap (λ zs. slice_get zs k) old ∙ at
        by_kind (inr new) = ap (λ zs. slice_get zs k) new.0 ∙ earlier xs k at

    -- what is read within the list is read behind it
    pub added_get : (k : ℕ) (d : X) → k < length xs → get_or ys k d ≡ get_or xs k d
    added_get k d low = by_kind a.grown
      where
        by_kind : (ys ≡ xs) ⊎ ((ys ≡ xs ++ x ∷ []) × ¬ (IsMember x xs)) → get_or ys k d ≡ get_or xs k d
        by_kind (inl old) = ap (λ zs. get_or zs k d) old
        by_kind (inr new) = ap (λ zs. get_or zs k d) new.0 ∙ get_or_append_left xs (x ∷ []) d k low

    -- the thing has the number of an earlier one, or the next number
    pub added_runs : RunsOn (length xs) (i ∷ []) (length ys)
    added_runs = by_kind a.grown
      where
        by_place : ¬ (IsMember x xs)
            → (slice_get xs i ≡ Some x) ⊎ ((i ≡ length xs) × (x ≡ x))
            → length ys ≡ length xs + 1
            → RunsOn (length xs) (i ∷ []) (length ys)
        by_place new (inl there) long = absurd (new (member_of_get xs i x there))
        by_place new (inr end) long = inr (end.0, sym long)

        by_kind : (ys ≡ xs) ⊎ ((ys ≡ xs ++ x ∷ []) × ¬ (IsMember x xs)) → RunsOn (length xs) (i ∷ []) (length ys)
        by_kind (inl old) =
            inl (slice_get_within xs i x (subst (λ zs. slice_get zs i ≡ Some x) old a.stands), sym (ap length old))
        by_kind (inr new) =
            by_place new.1 (last_or xs x x i (subst (λ zs. slice_get zs i ≡ Some x) new.0 a.stands))
            (ap length new.0 ∙ length-append xs (x ∷ []))
