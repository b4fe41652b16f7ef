-- Membership of a list: joined lists, images, and lists of lists put together.
--
--   member-append_left, member-append_right == a member of a part is one of the whole
--   member-append                           == a member of the whole is one of a part
--   member-map                              == the image of a member is a member of the image
--   Image f y xs                            == y is the image of a member of xs
--   member-map_from                         == a member of the image is the image of a member
--   member-flat_map                         == a member of the list of a member is one of all the lists together
--   member-flat_map_from                    == and the other way round
--   member-filter, member-filter_from       == a member of a filtered list is a member that passes the test
--   list_any-member, member-list_any        == some entry passes the test where a member does
--   Place x xs                              == x is the entry of xs at some place
--   member-place, place-member              == a member is the entry at some place, and the other way round
--   member_of_get                           == so is what is read at a place
--   All-member, member-All                  == what holds of each entry holds of each member, and the other way round
use Rattle.std.proofs.Common.{◌≡◌, ◌⊎◌, inl, inr, List, [], ◌∷◌, ◌++◌, map, ap, refl, sym, subst, Bool, true, false, ℕ, zero, suc, ◌<◌, length, get_or, slice_get, Some, arith}
use Rattle.std.proofs.lemmas.Bool.{cases_Bool, cond-true, cond-false, or_cases, or_left, or_right}
use Rattle.std.proofs.lemmas.Option.{get_or_from_slice_get, slice_get_within}
use Rattle.std.specs.List.{flat_map, filter, list_any, All}
use Rattle.ml_lists.specs.Member.{IsMember}

-- a member of the first list is one of both together
pub member-append_left : {X : Type 0} → (x : X) (xs ys : List X) → IsMember x xs → IsMember x (xs ++ ys)
member-append_left x [] ys m = absurd m
member-append_left x (z ∷ zs) ys (inl same) = inl same
member-append_left x (z ∷ zs) ys (inr m) = inr (member-append_left x zs ys m)

-- a member of the second list is one of both together
pub member-append_right : {X : Type 0} → (x : X) (xs ys : List X) → IsMember x ys → IsMember x (xs ++ ys)
member-append_right x [] ys m = m
member-append_right x (z ∷ zs) ys m = inr (member-append_right x zs ys m)

-- a member of both together is one of the first or of the second list
pub member-append : {X : Type 0} → (x : X) (xs ys : List X) → IsMember x (xs ++ ys) → IsMember x xs ⊎ IsMember x ys
member-append x [] ys m = inr m
member-append x (z ∷ zs) ys (inl same) = inl (inl same)
member-append x (z ∷ zs) ys (inr m) = later (member-append x zs ys m)
  where
    later : IsMember x zs ⊎ IsMember x ys → IsMember x (z ∷ zs) ⊎ IsMember x ys
    later (inl l) = inl (inr l)
    later (inr r) = inr r

-- the image of a member is a member of the image
pub member-map : {X Y : Type 0} → (f : X → Y) (x : X) (xs : List X) → IsMember x xs → IsMember (f x) (map f xs)
member-map f x [] m = absurd m
member-map f x (z ∷ zs) (inl same) = inl (ap f same)
member-map f x (z ∷ zs) (inr m) = inr (member-map f x zs m)

-- y is the image of a member of xs
pub record Image {X Y : Type 0} (f : X → Y) (y : Y) (xs : List X) : Type 0 where
  pub from : X
  pub member : IsMember from xs
  pub holds : y ≡ f from

-- a member of the image is the image of a member
pub member-map_from : {X Y : Type 0} → (f : X → Y) (y : Y) (xs : List X) → IsMember y (map f xs) → Image f y xs
member-map_from f y [] m = absurd m
member-map_from f y (z ∷ zs) (inl same) = record { from = z; member = inl refl; holds = same }
member-map_from f y (z ∷ zs) (inr m) = later (member-map_from f y zs m)
  where
    later : Image f y zs → Image f y (z ∷ zs)
    later i = record { from = i.from; member = inr i.member; holds = i.holds }

-- a member of the list of a member is one of all the lists together
pub member-flat_map : {X Y : Type 0}
    → (f : X → List Y) (x : X) (y : Y) (xs : List X)
    → IsMember x xs
    → IsMember y (f x)
    → IsMember y (flat_map f xs)
member-flat_map f x y [] m here = absurd m
member-flat_map f x y (z ∷ zs) (inl same) here = member-append_left y (f z) (flat_map f zs) (subst (λ v. IsMember y (f v)) same here)
member-flat_map f x y (z ∷ zs) (inr m) here = member-append_right y (f z) (flat_map f zs) (member-flat_map f x y zs m here)

-- y is a member of the list of a member of xs
pub record InList {X Y : Type 0} (f : X → List Y) (y : Y) (xs : List X) : Type 0 where
  pub from : X
  pub member : IsMember from xs
  pub inside : IsMember y (f from)

-- a member of all the lists together is one of the list of a member
pub member-flat_map_from : {X Y : Type 0}
    → (f : X → List Y) (y : Y) (xs : List X)
    → IsMember y (flat_map f xs)
    → InList f y xs
member-flat_map_from f y [] m = absurd m
member-flat_map_from f y (z ∷ zs) m = by_part (member-append y (f z) (flat_map f zs) m) (member-flat_map_from f y zs)
  where
    by_part : IsMember y (f z) ⊎ IsMember y (flat_map f zs)
        → (IsMember y (flat_map f zs) → InList f y zs)
        → InList f y (z ∷ zs)
    by_part (inl here) rest = record { from = z; member = inl refl; inside = here }
    by_part (inr later) rest = let i = rest later in record { from = i.from; member = inr i.member; inside = i.inside }

-- a member that passes the test is a member of the filtered list
pub member-filter : {X : Type 0}
    → (test : X → Bool) (x : X) (xs : List X)
    → IsMember x xs
    → test x ≡ true
    → IsMember x (filter test xs)
member-filter test x [] m passes = absurd m
member-filter test x (z ∷ zs) m passes = by_test m (λ l. member-filter test x zs l passes) (cases_Bool (test z))
  where
    by_test : (x ≡ z) ⊎ IsMember x zs
        → (IsMember x zs → IsMember x (filter test zs))
        → (test z ≡ true) ⊎ (test z ≡ false)
        → IsMember x (filter test (z ∷ zs))
    by_test (inl same) rest (inl t) = subst (IsMember x) (sym (cond-true (test z) (z ∷ filter test zs) (filter test zs) t)) (inl same)
    by_test (inr l) rest (inl t) = subst (IsMember x) (sym (cond-true (test z) (z ∷ filter test zs) (filter test zs) t)) (inr (rest l))
    by_test (inl same) rest (inr f) = let wrong : test z ≡ true = subst (λ v. test v ≡ true) same passes in absurd (cc)
    by_test (inr l) rest (inr f) = subst (IsMember x) (sym (cond-false (test z) (z ∷ filter test zs) (filter test zs) f)) (rest l)

-- a member of the filtered list is a member that passes the test
pub member-filter_from : {X : Type 0}
    → (test : X → Bool) (x : X) (xs : List X)
    → IsMember x (filter test xs)
    → IsMember x xs × (test x ≡ true)
member-filter_from test x [] m = absurd m
member-filter_from test x (z ∷ zs) m = by_test (λ l. member-filter_from test x zs l) (cases_Bool (test z))
  where
    here : (IsMember x (filter test zs) → IsMember x zs × (test x ≡ true))
        → test z ≡ true
        → (x ≡ z) ⊎ IsMember x (filter test zs)
        → IsMember x (z ∷ zs) × (test x ≡ true)
    here rest t (inl same) = (inl same, subst (λ v. test v ≡ true) (sym same) t)
    here rest t (inr l) = let r = rest l in (inr r.0, r.1)

    by_test : (IsMember x (filter test zs) → IsMember x zs × (test x ≡ true))
        → (test z ≡ true) ⊎ (test z ≡ false)
        → IsMember x (z ∷ zs) × (test x ≡ true)
    by_test rest (inl t) = here rest t (subst (IsMember x) (cond-true (test z) (z ∷ filter test zs) (filter test zs) t) m)
    by_test rest (inr f) = let r = rest (subst (IsMember x) (cond-false (test z) (z ∷ filter test zs) (filter test zs) f) m) in (inr r.0, r.1)

-- a member that passes the test
pub record Passing {X : Type 0} (test : X → Bool) (xs : List X) : Type 0 where
  pub item : X
  pub member : IsMember item xs
  pub passes : test item ≡ true

-- where some entry passes the test, a member does
pub list_any-member : {X : Type 0} → (test : X → Bool) (xs : List X) → list_any test xs ≡ true → Passing test xs
list_any-member test [] e = absurd (cc)
list_any-member test (z ∷ zs) e = by_part (or_cases (test z) (list_any test zs) e) (list_any-member test zs)
  where
    by_part : (test z ≡ true) ⊎ (list_any test zs ≡ true)
        → (list_any test zs ≡ true → Passing test zs)
        → Passing test (z ∷ zs)
    by_part (inl here) rest = record { item = z; member = inl refl; passes = here }
    by_part (inr later) rest = let p = rest later in record { item = p.item; member = inr p.member; passes = p.passes }

-- where a member passes the test, some entry does
pub member-list_any : {X : Type 0}
    → (test : X → Bool) (x : X) (xs : List X)
    → IsMember x xs
    → test x ≡ true
    → list_any test xs ≡ true
member-list_any test x [] m e = absurd m
member-list_any test x (z ∷ zs) (inl same) e = or_left (test z) (list_any test zs) (subst (λ v. test v ≡ true) same e)
member-list_any test x (z ∷ zs) (inr m) e = or_right (test z) (list_any test zs) (member-list_any test x zs m e)

-- x is the entry of xs at some place
pub record Place {X : Type 0} (x : X) (xs : List X) : Type 0 where
  pub place : ℕ
  pub below : place < length xs
  pub holds : (d : X) → get_or xs place d ≡ x

-- a member is the entry at some place
pub member-place : {X : Type 0} → (x : X) (xs : List X) → IsMember x xs → Place x xs
member-place x [] m = absurd m
member-place x (z ∷ zs) (inl same) = record { place = zero; below = omega arith; holds = λ d. sym same }
member-place x (z ∷ zs) (inr m) = later (member-place x zs m)
  where
    later : Place x zs → Place x (z ∷ zs)
    later p = record { place = suc p.place; below = omega (arith, p.below); holds = p.holds }

-- an entry is a member
pub place-member : {X : Type 0} → (xs : List X) (k : ℕ) (d : X) → k < length xs → IsMember (get_or xs k d) xs
place-member [] k d low = absurd (omega arith)
place-member (z ∷ zs) zero d low = inl refl
place-member (z ∷ zs) (suc k) d low = inr (place-member zs k d (omega arith))

-- what holds of each entry holds of each member
pub All-member : {X : Type 0} → (P : X → Type 0) (xs : List X) → All P xs → (x : X) → IsMember x xs → P x
All-member P xs all x m = let p = member-place x xs m in subst P (p.holds x) (all p.place x p.below)

-- what holds of each member holds of each entry
pub member-All : {X : Type 0} → (P : X → Type 0) (xs : List X) → ((x : X) → IsMember x xs → P x) → All P xs
member-All P xs each k d low = each (get_or xs k d) (place-member xs k d low)

-- what is read at a place is a member
pub member_of_get : {X : Type 0} (xs : List X) (k : ℕ) (x : X) → slice_get xs k ≡ Some x → IsMember x xs
member_of_get xs k x is =
    subst (λ y. IsMember y xs) (get_or_from_slice_get xs k x x is) (place-member xs k x (slice_get_within xs k x is))
