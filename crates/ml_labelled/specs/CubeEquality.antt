-- When cubes are equal, and what a hash reads of them.
--
--   literal_eq, cube_eq         == the literals, and the cubes, are one
--   literal_writes, cube_writes == what a hash reads of them
--
-- Their laws stand below them.
use Rattle.std.specs.Prelude.{◌≡◌, Bool, true, false, nat_eq, List, [], ◌∷◌, ◌++◌, refl}
use Rattle.std.specs.Bool.{beq}
use Rattle.std.specs.Ordering.{on, eq_of_both}
use Rattle.std.specs.Cmp.{bool_eq_equiv, IsEquivalence, first_so, second_so}
use Rattle.std.specs.Cmp.Lexicographic.{pointwise}
use Rattle.std.specs.Hash.{HashWrites}
use Rattle.std.specs.Hash as fed
use Rattle.std.proofs.lemmas.Bool.{eqb-true}
use Rattle.std.proofs.lemmas.Cmp.{on_equiv, and_equiv, nat_eq_equiv, lists_equiv}
use Rattle.ml_labelled.specs.declared.labelled.Literal.{Literal}

abbrev pub literal_eq : Literal → Literal → Bool
literal_eq = eq_of_both (on (λ (x : Literal). x.prop) nat_eq) (on (λ (x : Literal). x.positive) beq)

abbrev pub cube_eq : List Literal → List Literal → Bool
cube_eq = pointwise literal_eq

abbrev pub literal_writes : Literal → HashWrites
literal_writes x = fed.u32 x.prop ++ fed.bool x.positive

abbrev pub cube_writes : List Literal → HashWrites
cube_writes = fed.slice literal_writes

-- ---- laws

pub beq-same : (a b : Bool) → beq a b ≡ true → a ≡ b
beq-same true true e = refl
beq-same true false e = absurd (cc)
beq-same false true e = absurd (cc)
beq-same false false e = refl

pub literal_eq_equiv : IsEquivalence literal_eq
literal_eq_equiv =
    and_equiv (on_equiv (λ (x : Literal). x.prop) nat_eq_equiv) (on_equiv (λ (x : Literal). x.positive) bool_eq_equiv)

pub cube_eq_equiv : IsEquivalence cube_eq
cube_eq_equiv = lists_equiv literal_eq_equiv

pub literal_eq-same : (x y : Literal) → literal_eq x y ≡ true → x ≡ y
literal_eq-same x y e =
    let props = eqb-true x.prop y.prop (first_so (nat_eq x.prop y.prop) (beq x.positive y.positive) e) in
    let signs = beq-same x.positive y.positive (second_so (nat_eq x.prop y.prop) (beq x.positive y.positive) e) in
    λ i. record { prop = props i; positive = signs i }

pub cube_eq-same : (xs ys : List Literal) → cube_eq xs ys ≡ true → xs ≡ ys
cube_eq-same [] [] e = refl
cube_eq-same [] (y ∷ ys) e = absurd (cc)
cube_eq-same (x ∷ xs) [] e = absurd (cc)
cube_eq-same (x ∷ xs) (y ∷ ys) e =
    let here = literal_eq-same x y (first_so (literal_eq x y) (cube_eq xs ys) e) in
    let rest = cube_eq-same xs ys (second_so (literal_eq x y) (cube_eq xs ys) e) in
    λ i. here i ∷ rest i
