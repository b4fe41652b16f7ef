-- Names of stacks.
--
--   ends-has               == the last name of a stack stands in it
--   has-member, member-has == to stand in a stack is to be an entry of it
--   ends-cons              == the last name of a stack is that of the stack with a name in front
--   ends-cons_not          == and the other way round, where the stack has the name
--   ends_at                == the last name of a stack is the entry at its last place
--   one_end                == a stack has one last name
--   ends-map               == the image of the last name is the last name of the image
use Rattle.std.proofs.Common.{ℕ, suc, ◌≡◌, ◌-◌, ◌<◌, ◌⊎◌, inl, inr, List, [], ◌∷◌, true, false, eqb, length, get_or, refl, sym, ◌∙◌, map, ap, arith}
use Rattle.std.proofs.lemmas.Bool.{or_left, or_right, or_cases, eqb-true, eq-eqb}
use Rattle.ml_lists.specs.Member.{IsMember}
use Rattle.ml_trace.specs.Stack.{has, ends_in}

-- the last name of a stack stands in it
pub ends-has : (y : ℕ) (s : List ℕ) → ends_in y s ≡ true → has y s ≡ true
ends-has y [] e = e
ends-has y (x ∷ []) e = or_left (eqb x y) false e
ends-has y (x ∷ (z ∷ zs)) e = or_right (eqb x y) (has y (z ∷ zs)) (ends-has y (z ∷ zs) e)

-- a name that stands in a stack is an entry of it
pub has-member : (y : ℕ) (s : List ℕ) → has y s ≡ true → IsMember y s
has-member y [] h = absurd (cc)
has-member y (x ∷ xs) h = by_part (or_cases (eqb x y) (has y xs) h) (has-member y xs)
  where
    by_part : (eqb x y ≡ true) ⊎ (has y xs ≡ true) → (has y xs ≡ true → IsMember y xs) → IsMember y (x ∷ xs)
    by_part (inl here) rest = inl (sym (eqb-true x y here))
    by_part (inr later) rest = inr (rest later)

-- an entry of a stack stands in it
pub member-has : (y : ℕ) (s : List ℕ) → IsMember y s → has y s ≡ true
member-has y [] m = absurd m
member-has y (x ∷ xs) (inl same) = or_left (eqb x y) (has y xs) (eq-eqb x y (sym same))
member-has y (x ∷ xs) (inr m) = or_right (eqb x y) (has y xs) (member-has y xs m)

-- the last name of a stack is the last name of the stack with a name in front
pub ends-cons : (y x : ℕ) (s : List ℕ) → ends_in y s ≡ true → ends_in y (x ∷ s) ≡ true
ends-cons y x [] e = absurd (cc)
ends-cons y x (z ∷ zs) e = e

-- a name that stands in the stack, and is not the last with a name in front, is not its last name
pub ends-cons_not : (y x : ℕ) (s : List ℕ) → ends_in y (x ∷ s) ≡ false → has y s ≡ true → ends_in y s ≡ false
ends-cons_not y x [] e h = absurd (cc)
ends-cons_not y x (z ∷ zs) e h = e

-- the image of the last name is the last name of the image
pub ends-map : (f : ℕ → ℕ) (y : ℕ) (s : List ℕ) → ends_in y s ≡ true → ends_in (f y) (map f s) ≡ true
ends-map f y [] e = absurd (cc)
ends-map f y (x ∷ []) e = eq-eqb (f x) (f y) (ap f (eqb-true x y e))
ends-map f y (x ∷ (z ∷ zs)) e = ends-map f y (z ∷ zs) e

-- the last name of a stack is the entry at its last place
pub ends_at : (name : ℕ) (s : List ℕ) → 0 < length s → eqb (get_or s (length s - 1) 0) name ≡ ends_in name s
ends_at name [] some = absurd (omega arith)
ends_at name (x ∷ []) some = refl
ends_at name (x ∷ (y ∷ ys)) some =
    let e : length (x ∷ (y ∷ ys)) - 1 ≡ suc (length (y ∷ ys) - 1) = omega arith in
    ap (λ k. eqb (get_or (x ∷ (y ∷ ys)) k 0) name) e ∙ ends_at name (y ∷ ys) (omega arith)

-- a stack has one last name
pub one_end : (y z : ℕ) (s : List ℕ) → ends_in y s ≡ true → ends_in z s ≡ true → y ≡ z
one_end y z [] e f = absurd (cc)
one_end y z (v ∷ []) e f = sym (eqb-true v y e) ∙ eqb-true v z f
one_end y z (v ∷ (u ∷ us)) e f = one_end y z (u ∷ us) e f
