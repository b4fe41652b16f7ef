-- Items by ascending states.
--
--   arranged-member, member-arranged == the arranged items are the items
--   arranged-ascends                 == their states ascend, where no state stands twice
--   one_item                         == items whose states ascend have one item at most for a state
--   items_same                       == two lists of items whose states ascend, with the same members, are one
use Rattle.std.proofs.Common.{ℕ, ◌≡◌, ◌<◌, ◌⊎◌, inl, inr, arith, true, false, ltb, List, [], ◌∷◌, map, refl, sym, subst, ap, ◌∙◌}
use Rattle.std.proofs.lemmas.Bool.{cases_Bool, cond-true, cond-false, ltb-true, ltb-false}
use Rattle.ml_lists.specs.Ascending.{IsAscending}
use Rattle.ml_lists.specs.Member.{IsMember}
use Rattle.ml_lists.specs.Within.{Within}
use Rattle.ml_lists.proofs.Member.{Image, member-map, member-map_from}
use Rattle.ml_trace.specs.Stack.{Item}
use Rattle.ml_history.specs.private.Forest.{put_in, arranged}
use Rattle.ml_lists.specs.Times.{IsApart}

abbrev pub state_of : Item ℕ → ℕ
state_of a = a.state

-- the two forms of the items with a
module _ (a b : Item ℕ) (bs : List (Item ℕ)) where
  put_in-here : ltb a.state b.state ≡ true → put_in a (b ∷ bs) ≡ a ∷ (b ∷ bs)
  put_in-here t = cond-true (ltb a.state b.state) (a ∷ (b ∷ bs)) (b ∷ put_in a bs) t

  put_in-later : ltb a.state b.state ≡ false → put_in a (b ∷ bs) ≡ b ∷ put_in a bs
  put_in-later f = cond-false (ltb a.state b.state) (a ∷ (b ∷ bs)) (b ∷ put_in a bs) f

-- the items with a have a and what they had
pub put_in-member : (v a : Item ℕ) (ts : List (Item ℕ)) → IsMember v (put_in a ts) → IsMember v (a ∷ ts)
put_in-member v a [] m = m
put_in-member v a (b ∷ bs) m = by_test (cases_Bool (ltb a.state b.state)) (put_in-member v a bs)
  where
    behind : IsMember v (a ∷ bs) → IsMember v (a ∷ (b ∷ bs))
    behind (inl same) = inl same
    behind (inr i) = inr (inr i)

    later : (IsMember v (put_in a bs) → IsMember v (a ∷ bs)) → IsMember v (b ∷ put_in a bs) → IsMember v (a ∷ (b ∷ bs))
    later rest (inl same) = inr (inl same)
    later rest (inr i) = behind (rest i)

    by_test : (ltb a.state b.state ≡ true) ⊎ (ltb a.state b.state ≡ false)
        → (IsMember v (put_in a bs) → IsMember v (a ∷ bs))
        → IsMember v (a ∷ (b ∷ bs))
    by_test (inl t) rest = subst (IsMember v) (put_in-here a b bs t) m
    by_test (inr f) rest = later rest (subst (IsMember v) (put_in-later a b bs f) m)

pub member-put_in : (v a : Item ℕ) (ts : List (Item ℕ)) → IsMember v (a ∷ ts) → IsMember v (put_in a ts)
member-put_in v a [] m = m
member-put_in v a (b ∷ bs) m = by_test (cases_Bool (ltb a.state b.state)) (member-put_in v a bs)
  where
    later : (IsMember v (a ∷ bs) → IsMember v (put_in a bs)) → IsMember v (a ∷ (b ∷ bs)) → IsMember v (b ∷ put_in a bs)
    later rest (inl same) = inr (rest (inl same))
    later rest (inr (inl same)) = inl same
    later rest (inr (inr i)) = inr (rest (inr i))

    by_test : (ltb a.state b.state ≡ true) ⊎ (ltb a.state b.state ≡ false)
        → (IsMember v (a ∷ bs) → IsMember v (put_in a bs))
        → IsMember v (put_in a (b ∷ bs))
    by_test (inl t) rest = subst (IsMember v) (sym (put_in-here a b bs t)) m
    by_test (inr f) rest = subst (IsMember v) (sym (put_in-later a b bs f)) (later rest m)

-- the arranged items are the items
pub arranged-member : (v : Item ℕ) (ts : List (Item ℕ)) → IsMember v (arranged ts) → IsMember v ts
arranged-member v [] m = m
arranged-member v (a ∷ as') m = by_part (put_in-member v a (arranged as') m) (arranged-member v as')
  where
    by_part : IsMember v (a ∷ arranged as') → (IsMember v (arranged as') → IsMember v as') → IsMember v (a ∷ as')
    by_part (inl same) rest = inl same
    by_part (inr i) rest = inr (rest i)

pub member-arranged : (v : Item ℕ) (ts : List (Item ℕ)) → IsMember v ts → IsMember v (arranged ts)
member-arranged v [] m = m
member-arranged v (a ∷ as') (inl same) = member-put_in v a (arranged as') (inl same)
member-arranged v (a ∷ as') (inr i) = member-put_in v a (arranged as') (inr (member-arranged v as' i))

-- the states with one more ascend, where it is new
put_in-ascends : (a : Item ℕ) (ts : List (Item ℕ))
    → IsAscending (map state_of ts)
    → ¬ (IsMember a.state (map state_of ts))
    → IsAscending (map state_of (put_in a ts))
put_in-ascends a [] up new = ((λ y m. absurd m), tt)
put_in-ascends a (b ∷ bs) up new =
    by_test (cases_Bool (ltb a.state b.state)) (put_in-ascends a bs up.1 (λ m. new (inr m)))
  where
    above : a.state < b.state → (y : ℕ) → (y ≡ b.state) ⊎ IsMember y (map state_of bs) → a.state < y
    above low y (inl same) = omega arith
    above low y (inr m) = let high = up.0 y m in omega arith

    from_part : ltb a.state b.state ≡ false → (y : ℕ) (v : Item ℕ) → y ≡ v.state → IsMember v (a ∷ bs) → b.state < y
    from_part f y v e (inl same) =
        let le = ltb-false a.state b.state f in
        let here : v.state ≡ a.state = ap state_of same in
        let ne : a.state ≡ b.state → ⊥ = λ w. new (inl w) in
        omega arith
    from_part f y v e (inr m) = let high = up.0 v.state (member-map state_of v bs m) in omega arith

    from_image : ltb a.state b.state ≡ false → (y : ℕ) → Image state_of y (put_in a bs) → b.state < y
    from_image f y i = from_part f y i.from i.holds (put_in-member i.from a bs i.member)

    by_test : (ltb a.state b.state ≡ true) ⊎ (ltb a.state b.state ≡ false)
        → IsAscending (map state_of (put_in a bs))
        → IsAscending (map state_of (put_in a (b ∷ bs)))
    by_test (inl t) rest = subst (λ v. IsAscending (map state_of v)) (sym (put_in-here a b bs t))
        (above (ltb-true a.state b.state t), up)
    by_test (inr f) rest =
        subst (λ v. IsAscending (map state_of v)) (sym (put_in-later a b bs f))
        ((λ y m. from_image f y (member-map_from state_of y (put_in a bs) m)), rest)

-- the states of arranged items ascend, where no state stands twice
pub arranged-ascends : (ts : List (Item ℕ)) → IsApart (map state_of ts) → IsAscending (map state_of (arranged ts))
arranged-ascends [] apart = tt
arranged-ascends (a ∷ as') apart =
    put_in-ascends a (arranged as') (arranged-ascends as' apart.1)
    (λ m. apart.0 (from_image (member-map_from state_of a.state (arranged as') m)))
  where
    from_image : Image state_of a.state (arranged as') → IsMember a.state (map state_of as')
    from_image i = subst (λ v. IsMember v (map state_of as')) (sym i.holds)
        (member-map state_of i.from as' (arranged-member i.from as' i.member))

-- items whose states ascend have one item at most for a state
pub one_item : (ts : List (Item ℕ))
    → IsAscending (map state_of ts)
    → (a b : Item ℕ)
    → IsMember a ts
    → IsMember b ts
    → a.state ≡ b.state
    → a ≡ b
one_item [] up a b ma mb e = absurd ma
one_item (t ∷ ts) up a b (inl ia) (inl ib) e = ia ∙ sym ib
one_item (t ∷ ts) up a b (inl ia) (inr mb) e =
    let high = up.0 b.state (member-map state_of b ts mb) in
    let here : a.state ≡ t.state = ap state_of ia in
    absurd (omega arith)
one_item (t ∷ ts) up a b (inr ma) (inl ib) e =
    let high = up.0 a.state (member-map state_of a ts ma) in
    let here : b.state ≡ t.state = ap state_of ib in
    absurd (omega arith)
one_item (t ∷ ts) up a b (inr ma) (inr mb) e = one_item ts up.1 a b ma mb e

-- two lists of items whose states ascend, with the same members, are one
pub items_same : (ts us : List (Item ℕ))
    → IsAscending (map state_of ts)
    → IsAscending (map state_of us)
    → Within ts us
    → Within us ts
    → ts ≡ us
items_same [] [] a b to from = refl
items_same [] (u ∷ us) a b to from = absurd (from u (inl refl))
items_same (t ∷ ts) [] a b to from = absurd (to t (inl refl))
items_same (t ∷ ts) (u ∷ us) a b to from =
    let rest = items_same ts us a.1 b.1 (λ v m. later v (a.0 v.state (member-map state_of v ts m)) (to v (inr m)))
    (λ v m. sooner v (b.0 v.state (member-map state_of v us m)) (from v (inr m))) in
    λ i. heads i ∷ rest i
  where
    heads : t ≡ u
    heads = by_place (to t (inl refl)) (from u (inl refl))
      where
        by_place : (t ≡ u) ⊎ IsMember t us → (u ≡ t) ⊎ IsMember u ts → t ≡ u
        by_place (inl same) other = same
        by_place (inr m) (inl same) = sym same
        by_place (inr m) (inr k) = let p = b.0 t.state (member-map state_of t us m) in let q =
            a.0 u.state (member-map state_of u ts k) in absurd (omega arith)

    later : (v : Item ℕ) → t.state < v.state → (v ≡ u) ⊎ IsMember v us → IsMember v us
    later v high (inl same) = let e : v.state ≡ t.state = ap state_of (same ∙ sym heads) in absurd (omega arith)
    later v high (inr m) = m

    sooner : (v : Item ℕ) → u.state < v.state → (v ≡ t) ⊎ IsMember v ts → IsMember v ts
    sooner v high (inl same) = let e : v.state ≡ u.state = ap state_of (same ∙ heads) in absurd (omega arith)
    sooner v high (inr m) = m
