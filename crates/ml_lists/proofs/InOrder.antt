-- Lists in the order of a relation.
--
--   InOrder R xs      == each entry of xs stands in the relation R to all later ones
--   in_order_same     == two such lists with the same entries are one, where no two things stand in R both ways
--   in_order-append   == two such lists one behind the other, where each of the first stands in R to each of the second
--   in_order-map      == the image of such a list
--   split_same        == if two lists are each cut into a front and a back by what holds of the entries, and they are
--                        equal, so are the fronts and the backs
use Rattle.std.proofs.Common.{◌≡◌, ◌⊎◌, inl, inr, List, [], ◌∷◌, ◌++◌, map, refl, sym, subst, ◌∙◌}
use Rattle.ml_lists.specs.Member.{IsMember}
use Rattle.ml_lists.specs.Within.{Within}
use Rattle.ml_lists.proofs.Member.{Image, member-append, member-map_from}

-- each entry stands in the relation to all later ones
abbrev pub InOrder : {X : Type 0} → (X → X → Type 0) → List X → Type 0
InOrder R [] = Unit {0}
InOrder {X} R (x ∷ xs) = ((y : X) → IsMember y xs → R x y) × InOrder R xs

-- two lists in order with the same entries are one
pub in_order_same : {X : Type 0} (R : X → X → Type 0)
    → ((x y : X) → R x y → R y x → ⊥)
    → (xs ys : List X)
    → InOrder R xs
    → InOrder R ys
    → Within xs ys
    → Within ys xs
    → xs ≡ ys
in_order_same R apart [] [] p q to back = refl
in_order_same R apart [] (y ∷ ys) p q to back = absurd (back y (inl refl))
in_order_same R apart (x ∷ xs) [] p q to back = absurd (to x (inl refl))
in_order_same {X} R apart (x ∷ xs) (y ∷ ys) p q to back =
    let same : x ≡ y = heads (to x (inl refl)) (back y (inl refl)) in
    let rest : xs ≡ ys = in_order_same R apart xs ys p.1 q.1 (tail x y xs ys p.0 same to)
    (tail y x ys xs q.0 (sym same) back) in
    λ i. same i ∷ rest i
  where
    heads : IsMember x (y ∷ ys) → IsMember y (x ∷ xs) → x ≡ y
    heads (inl e) m = e
    heads (inr m) (inl e) = sym e
    heads (inr m) (inr n) = absurd (apart x y (p.0 y n) (q.0 x m))

    tail : (a b : X) (as' bs : List X)
        → ((v : X) → IsMember v as' → R a v)
        → a ≡ b
        → Within (a ∷ as') (b ∷ bs)
        → Within as' bs
    tail a b as' bs first e within v m = by_place (within v (inr m))
      where
        by_place : IsMember v (b ∷ bs) → IsMember v bs
        by_place (inl is) =
            let r : R a a = subst (R a) (is ∙ sym e) (first v m) in
            absurd (apart a a r r)
        by_place (inr n) = n

-- two lists in order, one behind the other
pub in_order-append : {X : Type 0} (R : X → X → Type 0) (xs ys : List X)
    → InOrder R xs
    → InOrder R ys
    → ((x y : X) → IsMember x xs → IsMember y ys → R x y)
    → InOrder R (xs ++ ys)
in_order-append R [] ys p q across = q
in_order-append {X} R (x ∷ xs) ys p q across = (first, in_order-append R xs ys p.1 q (λ u v m n. across u v (inr m) n))
  where
    by_part : (y : X) → IsMember y xs ⊎ IsMember y ys → R x y
    by_part y (inl m) = p.0 y m
    by_part y (inr n) = across x y (inl refl) n

    first : (y : X) → IsMember y (xs ++ ys) → R x y
    first y m = by_part y (member-append y xs ys m)

-- the image of a list in order
pub in_order-map : {X Y : Type 0} (R : X → X → Type 0) (S : Y → Y → Type 0) (f : X → Y) (xs : List X)
    → ((x y : X) → R x y → S (f x) (f y))
    → InOrder R xs
    → InOrder S (map f xs)
in_order-map R S f [] keeps p = tt
in_order-map {X} {Y} R S f (x ∷ xs) keeps p = (λ y m. from (member-map_from f y xs m), in_order-map R S f xs keeps p.1)
  where
    from : {y : Y} → Image f y xs → S (f x) y
    from j = subst (S (f x)) (sym j.holds) (keeps x j.from (p.0 j.from j.member))

-- two equal lists, each with a front of which P holds and a back of which Q holds
pub split_same : {X : Type 0} (P Q : X → Type 0)
    → ((x : X) → P x → Q x → ⊥)
    → (xs ys us vs : List X)
    → ((x : X) → IsMember x xs → P x)
    → ((x : X) → IsMember x us → P x)
    → ((x : X) → IsMember x ys → Q x)
    → ((x : X) → IsMember x vs → Q x)
    → xs ++ ys ≡ us ++ vs
    → (xs ≡ us) × (ys ≡ vs)
split_same P Q apart [] ys [] vs front front' back back' e = (refl, e)
split_same P Q apart [] ys (u ∷ us) vs front front' back back' e =
    absurd (apart u (front' u (inl refl)) (back u (subst (IsMember u) (sym e) (inl refl))))
split_same P Q apart (x ∷ xs) ys [] vs front front' back back' e =
    absurd (apart x (front x (inl refl)) (back' x (subst (IsMember x) e (inl refl))))
split_same P Q apart (x ∷ xs) ys (u ∷ us) vs front front' back back' e =
    let first : x ≡ u = cc in
    let later : xs ++ ys ≡ us ++ vs = cc in
    let rest = split_same P Q apart xs ys us vs (λ v m. front v (inr m)) (λ v m. front' v (inr m)) back back' later in
    (λ i. first i ∷ rest.0 i, rest.1)
