-- Arrivals are equal if they are one.
--
--   arrival_eq       == the test that a table makes
--   arrival_eq-same  == it holds of no two
--   arrival_eq-refl  == and of each with itself
use Rattle.std.proofs.Common.{◌≡◌, Bool, true, nat_eq}
use Rattle.std.proofs.lemmas.Bool.{and_parts, and_from, eqb-true}
use Rattle.std.proofs.lemmas.Cmp.{nat_eq_equiv}
use Rattle.ml_synthesis.specs.contracts.arrival.ArrivalPartialEq.TheImpl as test
use Rattle.ml_synthesis.specs.declared.arrival.Arrival.{Arrival}

abbrev pub arrival_eq : Arrival → Arrival → Bool
arrival_eq = (test.ghosts).eq

pub arrival_eq-same : (x y : Arrival) → arrival_eq x y ≡ true → x ≡ y
arrival_eq-same x y e =
    let both = and_parts (nat_eq x.state y.state) (nat_eq x.priority y.priority) e in
    let states = eqb-true x.state y.state both.0 in
    let priorities = eqb-true x.priority y.priority both.1 in
    λ i. record { state = states i; priority = priorities i }

pub arrival_eq-refl : (x : Arrival) → arrival_eq x x ≡ true
arrival_eq-refl x =
    and_from (nat_eq x.state x.state) (nat_eq x.priority x.priority) (nat_eq_equiv.refl x.state)
    (nat_eq_equiv.refl x.priority)
