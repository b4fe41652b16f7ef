-- Nodes by numbers are equal if they are one.
--
--   spot_eq        == the test that a table makes
--   spot_eq-same   == it holds of no two
--   spot_eq-refl   == and of each with itself
--   spots_told     == so it tells equal nodes
use denote.Enum.Bare.{same_true}
use Rattle.std.proofs.Common.{rules, ◌≡◌, ◌&&◌, Bool, true, nat_eq, refl, ap}
use Rattle.std.specs.Bool.{beq}
use Rattle.std.specs.Cmp.{bool_eq_equiv}
use Rattle.std.proofs.lemmas.Bool.{and_parts, and_from, eqb-true}
use Rattle.std.proofs.lemmas.Cmp.{nat_eq_equiv}
use Rattle.ml_nodes.specs.NumberedValues.{Tells}
use Rattle.ml_blocks.specs.contracts.spots.SpotPartialEq.TheImpl as test
use Rattle.ml_blocks.specs.contracts.spots.Fixed as fixed_contract
use Rattle.ml_blocks.specs.declared.spots.Block.{Block}
use Rattle.ml_blocks.specs.declared.spots.Fixed.TheVariants as fixed
use Rattle.ml_blocks.specs.declared.spots.Part.{Part}
use Rattle.ml_blocks.specs.declared.spots.Part.TheVariants as part
use Rattle.ml_blocks.specs.declared.spots.Spot.{Spot}
use Rattle.ml_blocks.specs.declared.spots.Spot.TheVariants as spot
use Rattle.ml_blocks.specs.private.ItemEquality.{asked_eq, asked_eq-same, asked_eq_equiv, beq-same, items_eq, items_eq-same, items_eq_equiv}

abbrev pub spot_eq : Spot → Spot → Bool
spot_eq = (test.ghosts).eq

abbrev behind_eq : Block → Block → Bool
behind_eq b c = items_eq b.items c.items && nat_eq b.focus c.focus

abbrev rest_eq : Block → Block → Bool
rest_eq b c = beq b.positive c.positive && behind_eq b c

block_same : (b c : Block) → (asked_eq b.first c.first && rest_eq b c) ≡ true → b ≡ c
block_same b c e =
    let all = and_parts (asked_eq b.first c.first) (rest_eq b c) e in
    let rest = and_parts (beq b.positive c.positive) (behind_eq b c) all.1 in
    let behind = and_parts (items_eq b.items c.items) (nat_eq b.focus c.focus) rest.1 in
    let firsts = asked_eq-same b.first c.first all.0 in
    let signs = beq-same b.positive c.positive rest.0 in
    let items = items_eq-same b.items c.items behind.0 in
    let turns = eqb-true b.focus c.focus behind.1 in
    λ i. record { first = firsts i; positive = signs i; items = items i; focus = turns i }

pub spot_eq-same : (x y : Spot) → spot_eq x y ≡ true → x ≡ y
spot_eq-same (spot.Fixed f) (spot.Fixed g) e = ap spot.Fixed (same_true fixed_contract.the_type (search rules) f g e)
spot_eq-same (spot.Fixed f) (spot.State p n b) e = absurd (cc)
spot_eq-same (spot.Fixed f) (spot.Path b) e = absurd (cc)
spot_eq-same (spot.State p n b) (spot.Fixed f) e = absurd (cc)
spot_eq-same (spot.State p n b) (spot.State q m c) e =
    let all = and_parts (spot_eq (spot.State p 0 true) (spot.State q 0 true)) (nat_eq n m && beq b c) (by_parts p q e) in
    let rest = and_parts (nat_eq n m) (beq b c) all.1 in
    let parts = part_same p q all.0 in
    let numbers = eqb-true n m rest.0 in
    let signs = beq-same b c rest.1 in
    λ i. spot.State (parts i) (numbers i) (signs i)
  where
    by_parts : (p q : Part)
        → spot_eq (spot.State p n b) (spot.State q m c) ≡ true
        → (spot_eq (spot.State p 0 true) (spot.State q 0 true) && (nat_eq n m && beq b c)) ≡ true
    by_parts part.Whole part.Whole e = e
    by_parts part.Both part.Both e = e
    by_parts part.Neither part.Neither e = e
    by_parts part.Whole part.Both e = e
    by_parts part.Whole part.Neither e = e
    by_parts part.Both part.Whole e = e
    by_parts part.Both part.Neither e = e
    by_parts part.Neither part.Whole e = e
    by_parts part.Neither part.Both e = e

    part_same : (p q : Part) → spot_eq (spot.State p 0 true) (spot.State q 0 true) ≡ true → p ≡ q
    part_same part.Whole part.Whole e = refl
    part_same part.Both part.Both e = refl
    part_same part.Neither part.Neither e = refl
    part_same part.Whole part.Both e = absurd (cc)
    part_same part.Whole part.Neither e = absurd (cc)
    part_same part.Both part.Whole e = absurd (cc)
    part_same part.Both part.Neither e = absurd (cc)
    part_same part.Neither part.Whole e = absurd (cc)
    part_same part.Neither part.Both e = absurd (cc)
spot_eq-same (spot.State p n b) (spot.Path c) e = absurd (cc)
spot_eq-same (spot.Path b) (spot.Fixed f) e = absurd (cc)
spot_eq-same (spot.Path b) (spot.State p n c) e = absurd (cc)
spot_eq-same (spot.Path b) (spot.Path c) e = ap spot.Path (block_same b c e)

pub spot_eq-refl : (x : Spot) → spot_eq x x ≡ true
spot_eq-refl (spot.Fixed fixed.Root) = refl
spot_eq-refl (spot.Fixed fixed.Total) = refl
spot_eq-refl (spot.Fixed fixed.HasEdge) = refl
spot_eq-refl (spot.Fixed fixed.LeadsOn) = refl
spot_eq-refl (spot.Fixed fixed.True) = refl
spot_eq-refl (spot.Fixed fixed.False) = refl
spot_eq-refl (spot.State part.Whole n b) =
    and_from (nat_eq n n) (beq b b) (nat_eq_equiv.refl n) (bool_eq_equiv.refl b)
spot_eq-refl (spot.State part.Both n b) =
    and_from (nat_eq n n) (beq b b) (nat_eq_equiv.refl n) (bool_eq_equiv.refl b)
spot_eq-refl (spot.State part.Neither n b) =
    and_from (nat_eq n n) (beq b b) (nat_eq_equiv.refl n) (bool_eq_equiv.refl b)
spot_eq-refl (spot.Path b) =
    and_from (asked_eq b.first b.first) (rest_eq b b) (asked_eq_equiv.refl b.first)
    (and_from (beq b.positive b.positive) (behind_eq b b) (bool_eq_equiv.refl b.positive)
    (and_from (items_eq b.items b.items) (nat_eq b.focus b.focus) (items_eq_equiv.refl b.items) (nat_eq_equiv.refl b.focus)))

pub spots_told : Tells spot_eq
spots_told = record { same = spot_eq-same; own = spot_eq-refl }
