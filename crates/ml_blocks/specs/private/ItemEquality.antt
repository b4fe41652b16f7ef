-- When lists of items by numbers are equal, and what a hash reads of them.
--
--   asked_eq, items_eq         == the items, and the lists, are one
--   asked_writes, items_writes == what a hash reads of them
--
-- Their laws stand below them.
use Rattle.std.specs.Prelude.{◌≡◌, Bool, true, false, nat_eq, List, [], ◌∷◌, ◌++◌, refl}
use Rattle.std.specs.Bool.{beq}
use Rattle.std.specs.Ordering.{on, eq_of_both}
use Rattle.std.specs.Cmp.{bool_eq_equiv, IsEquivalence, first_so, second_so}
use Rattle.std.specs.Cmp.Lexicographic.{pointwise}
use Rattle.std.specs.Hash.{HashWrites}
use Rattle.std.specs.Hash as fed
use Rattle.std.proofs.lemmas.Bool.{eqb-true}
use Rattle.std.proofs.lemmas.Cmp.{on_equiv, and_equiv, nat_eq_equiv, lists_equiv}
use Rattle.ml_blocks.specs.declared.items.Asked.{Asked}

abbrev pub flags_eq : Asked → Asked → Bool
flags_eq = eq_of_both (on (λ (x : Asked). x.positive) beq) (on (λ (x : Asked). x.later) beq)

abbrev pub asked_eq : Asked → Asked → Bool
asked_eq = eq_of_both (on (λ (x : Asked). x.number) nat_eq) flags_eq

abbrev pub items_eq : List Asked → List Asked → Bool
items_eq = pointwise asked_eq

abbrev pub asked_writes : Asked → HashWrites
asked_writes x = fed.u32 x.number ++ fed.bool x.positive ++ fed.bool x.later

abbrev pub items_writes : List Asked → HashWrites
items_writes = fed.slice asked_writes

-- ---- laws

pub beq-same : (a b : Bool) → beq a b ≡ true → a ≡ b
beq-same true true e = refl
beq-same true false e = absurd (cc)
beq-same false true e = absurd (cc)
beq-same false false e = refl

pub asked_eq_equiv : IsEquivalence asked_eq
asked_eq_equiv =
    and_equiv (on_equiv (λ (x : Asked). x.number) nat_eq_equiv)
    (and_equiv (on_equiv (λ (x : Asked). x.positive) bool_eq_equiv) (on_equiv (λ (x : Asked). x.later) bool_eq_equiv))

pub items_eq_equiv : IsEquivalence items_eq
items_eq_equiv = lists_equiv asked_eq_equiv

pub asked_eq-same : (x y : Asked) → asked_eq x y ≡ true → x ≡ y
asked_eq-same x y e =
    let numbers = eqb-true x.number y.number (first_so (nat_eq x.number y.number) (flags_eq x y) e) in
    let flags = second_so (nat_eq x.number y.number) (flags_eq x y) e in
    let signs = beq-same x.positive y.positive (first_so (beq x.positive y.positive) (beq x.later y.later) flags) in
    let times = beq-same x.later y.later (second_so (beq x.positive y.positive) (beq x.later y.later) flags) in
    λ i. record { number = numbers i; positive = signs i; later = times i }

pub items_eq-same : (xs ys : List Asked) → items_eq xs ys ≡ true → xs ≡ ys
items_eq-same [] [] e = refl
items_eq-same [] (y ∷ ys) e = absurd (cc)
items_eq-same (x ∷ xs) [] e = absurd (cc)
items_eq-same (x ∷ xs) (y ∷ ys) e =
    let here = asked_eq-same x y (first_so (asked_eq x y) (items_eq xs ys) e) in
    let rest = items_eq-same xs ys (second_so (asked_eq x y) (items_eq xs ys) e) in
    λ i. here i ∷ rest i
