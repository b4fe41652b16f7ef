-- Places are equal if they are one.
--
--   place_eq       == the test that a table makes
--   place_eq-same  == it holds of no two
--   place_eq-refl  == and of each with itself
--   place_eq-tells == so it tells equal places
use Rattle.std.proofs.Common.{◌≡◌, ◌&&◌, Bool, true, nat_eq, subst}
use Rattle.std.specs.Bool.{Decides}
use Rattle.std.proofs.lemmas.Bool.{and_from, and_parts, eqb-true}
use Rattle.std.proofs.lemmas.Cmp.{nat_eq_equiv}
use Rattle.ml_translate.specs.Places.{Place}
use Rattle.ml_translate.specs.contracts.place.PlacePartialEq.TheImpl as test
use Rattle.ml_labelled.specs.CubeEquality.{cube_eq, cube_eq-same, cube_eq_equiv}

abbrev pub place_eq : Place → Place → Bool
place_eq = (test.ghosts).eq

abbrev rest_eq : Place → Place → Bool
rest_eq s t = nat_eq s.node t.node && cube_eq s.cube t.cube

pub place_eq-same : (s t : Place) → place_eq s t ≡ true → s ≡ t
place_eq-same s t e =
    let all = and_parts (nat_eq s.state t.state) (rest_eq s t) e in
    let rest = and_parts (nat_eq s.node t.node) (cube_eq s.cube t.cube) all.1 in
    let states = eqb-true s.state t.state all.0 in
    let nodes = eqb-true s.node t.node rest.0 in
    let cubes = cube_eq-same s.cube t.cube rest.1 in
    λ i. record { state = states i; node = nodes i; cube = cubes i }

pub place_eq-refl : (s : Place) → place_eq s s ≡ true
place_eq-refl s =
    and_from (nat_eq s.state s.state) (rest_eq s s) (nat_eq_equiv.refl s.state)
    (and_from (nat_eq s.node s.node) (cube_eq s.cube s.cube) (nat_eq_equiv.refl s.node) (cube_eq_equiv.refl s.cube))

pub place_eq-tells : (s t : Place) → Decides (place_eq s t) (s ≡ t)
place_eq-tells s t = (place_eq-same s t, λ same. subst (λ (u : Place). place_eq s u ≡ true) same (place_eq-refl s))
