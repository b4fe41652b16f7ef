-- Sets of items stand in their order, so that there are finitely many over finitely many items.
--
--   InOrder xs         == the keys of xs ascend strictly
--   put_all_in_order, without_in_order, next_in_order == so it is with the sets that blocks come to
--   in_order_short     == a list in order is no longer than its keys leave room
--   lists_of us n      == the lists of at most n entries among us
--   member-lists_of    == these are all
use Rattle.std.proofs.Common.{ℕ, zero, suc, ◌≡◌, ◌+◌, ◌<◌, ◌≤◌, ◌⊎◌, inl, inr, arith, true, false, Bool, List, [], ◌∷◌, map, filter, length, refl, subst, sym}
use Rattle.std.proofs.lemmas.Bool.{cases_Bool, cond-true, cond-false}
use Rattle.std.specs.List.{flat_map}
use Rattle.ml_lists.specs.Member.{IsMember}
use Rattle.ml_lists.proofs.Member.{member-filter_from, member-flat_map, member-map}
use Rattle.ml_blocks.specs.Items.{Item}
use Rattle.ml_blocks.specs.ItemSets.{key, put, put_all, without, next_items, next_of}
use Rattle.ml_blocks.proofs.ItemSetMembers.{by_order, put-member}

abbrev pub InOrder : List Item → Type 0
InOrder [] = Unit {0}
InOrder (x ∷ xs) = ((y : Item) → IsMember y xs → key x < key y) × InOrder xs

put_in_order : (x : Item) (ys : List Item) → InOrder ys → InOrder (put x ys)
put_in_order x [] up = ((λ y none. absurd none), tt)
put_in_order x (y ∷ ys) up = by_order x y ys InOrder front (λ same. up) (λ high. (behind high, put_in_order x ys up.1))
  where
    front : key x < key y → InOrder (x ∷ (y ∷ ys))
    front low = (first, up)
      where
        first : (v : Item) → IsMember v (y ∷ ys) → key x < key v
        first v (inl e) = subst (λ w. key x < key w) (sym e) low
        first v (inr m) = let more = up.0 v m in omega (arith, low, more)

    behind : key y < key x → (v : Item) → IsMember v (put x ys) → key y < key v
    behind high v m = from (put-member v x ys m)
      where
        from : (v ≡ x) ⊎ IsMember v ys → key y < key v
        from (inl e) = subst (λ w. key y < key w) (sym e) high
        from (inr i) = up.0 v i

pub put_all_in_order : (ys xs : List Item) → InOrder xs → InOrder (put_all ys xs)
put_all_in_order [] xs up = up
put_all_in_order (y ∷ ys) xs up = put_in_order y (put_all ys xs) (put_all_in_order ys xs up)

filter_in_order : (test : Item → Bool) (xs : List Item) → InOrder xs → InOrder (filter test xs)
filter_in_order test [] up = tt
filter_in_order test (x ∷ xs) up = by_test (cases_Bool (test x)) (filter_in_order test xs up.1)
  where
    by_test : (test x ≡ true) ⊎ (test x ≡ false) → InOrder (filter test xs) → InOrder (filter test (x ∷ xs))
    by_test (inl t) rest =
        subst InOrder (sym (cond-true (test x) (x ∷ filter test xs) (filter test xs) t))
        ((λ y m. up.0 y (member-filter_from test y xs m).0), rest)
    by_test (inr f) rest =
        subst InOrder (sym (cond-false (test x) (x ∷ filter test xs) (filter test xs) f)) rest

pub without_in_order : (x : Item) (xs : List Item) → InOrder xs → InOrder (without x xs)
without_in_order x xs up = filter_in_order _ xs up

pub next_in_order : (xs : List Item) → InOrder (next_items xs)
next_in_order [] = tt
next_in_order (x ∷ xs) = put_in_order (next_of x) (next_items xs) (next_in_order xs)

pub in_order_short : (low high : ℕ) (xs : List Item)
    → InOrder xs
    → ((x : Item) → IsMember x xs → (low ≤ key x) × (key x < high))
    → low ≤ high
    → low + length xs ≤ high
in_order_short low high [] up fit room = omega (arith, room)
in_order_short low high (x ∷ xs) up fit room =
    let here = fit x (inl refl) in
    let rest =
    in_order_short (key x + 1) high xs up.1
    (λ y m. let more = up.0 y m in (omega (arith, more), (fit y (inr m)).1))
    (omega (arith, here.1)) in
    omega (arith, here.0, rest)

-- ---- finitely many lists

pub lists_of : {X : Type 0} → List X → ℕ → List (List X)
lists_of us zero = [] ∷ []
lists_of us (suc n) = [] ∷ flat_map (λ u. map (λ xs. u ∷ xs) (lists_of us n)) us

pub member-lists_of : {X : Type 0} (us : List X) (n : ℕ) (xs : List X)
    → ((x : X) → IsMember x xs → IsMember x us)
    → length xs ≤ n
    → IsMember xs (lists_of us n)
unfolding lists_of
member-lists_of us zero [] all short = inl refl
member-lists_of us zero (x ∷ xs) all short = absurd (omega (arith, short))
member-lists_of us (suc n) [] all short = inl refl
member-lists_of us (suc n) (x ∷ xs) all short =
    inr (member-flat_map (λ u. map (λ ys. u ∷ ys) (lists_of us n)) x (x ∷ xs) us (all x (inl refl))
    (member-map (λ ys. x ∷ ys) xs (lists_of us n)
    (member-lists_of us n xs (λ y m. all y (inr m)) (omega (arith, short)))))
