-- Pairs are equal if they are one.
--
--   pair_eq       == the test that a table makes
--   pair_eq-same  == it holds of no two
--   pair_eq-refl  == and of each with itself
use Rattle.std.proofs.Common.{◌≡◌, Bool, true, nat_eq}
use Rattle.std.proofs.lemmas.Bool.{and_parts, and_from, eqb-true}
use Rattle.std.proofs.lemmas.Cmp.{nat_eq_equiv}
use Rattle.ml_emptiness.specs.contracts.pairs.PairPartialEq.TheImpl as test
use Rattle.ml_emptiness.specs.declared.pairs.Pair.{Pair}

abbrev pub pair_eq : Pair → Pair → Bool
pair_eq = (test.ghosts).eq

pub pair_eq-same : (x y : Pair) → pair_eq x y ≡ true → x ≡ y
pair_eq-same x y e =
    let both = and_parts (nat_eq x.state y.state) (nat_eq x.at y.at) e in
    let states = eqb-true x.state y.state both.0 in
    let ats = eqb-true x.at y.at both.1 in
    λ i. record { state = states i; at = ats i }

pub pair_eq-refl : (x : Pair) → pair_eq x x ≡ true
pair_eq-refl x =
    and_from (nat_eq x.state x.state) (nat_eq x.at x.at) (nat_eq_equiv.refl x.state) (nat_eq_equiv.refl x.at)
