-- Meanings worked out by hand, on a structure of three states: by the action a from 0 to 1 and from 0 to 2, by b from 1
-- to 0; p is true at 1 alone.
use Rattle.std.proofs.Common.{◌≡◌, true, false, [], ◌∷◌, codes, refl}
use Rattle.ml_base.specs.Structure.{Structure}
use Rattle.ml_pdl.specs.Formula.{Formula, Const, Prop, Not, Modal, Repeat, Program, Act, Seq, Alt, Star, Test}
use Rattle.ml_pdl.specs.declared.term.Modality.TheVariants.{Diamond, Square}
use Rattle.ml_pdl.specs.Meaning.{meaning, relation}

abbrev three : Structure
three = record {
  states = 3;
  labels = [] ∷ (codes "p" ∷ []) ∷ [] ∷ [];
  edges =
      record { source = 0; action = codes "a"; target = 1 } ∷ record { source = 0; action = codes "a"; target = 2 }
      ∷ record { source = 1; action = codes "b"; target = 0 } ∷ [];
}

abbrev a : Program
a = Act (codes "a")

abbrev b : Program
b = Act (codes "b")

abbrev p : Formula
p = Prop (codes "p")

-- a b-step and then an a-step leads from 1 to itself and to 2
round_trip : relation three (Seq b a) 1 1 ≡ true
round_trip = refl

round_off : relation three (Seq b a) 1 2 ≡ true
round_off = refl

not_back : relation three (Seq b a) 1 0 ≡ false
not_back = refl

-- any number of them, none among them
star_here : relation three (Star (Seq b a)) 0 0 ≡ true
star_here = refl

star_on : relation three (Star (Alt a b)) 1 2 ≡ true
star_on = refl

star_stuck : relation three (Star (Alt a b)) 2 1 ≡ false
star_stuck = refl

-- some a-step leads to p, from 0; every one does where there is none
some_a : meaning three (Modal Diamond a p) ≡ true ∷ false ∷ false ∷ []
some_a = refl

every_a : meaning three (Modal Square a p) ≡ false ∷ true ∷ true ∷ []
every_a = refl

-- from where one can come to p, by steps of any kind
reaches_p : meaning three (Modal Diamond (Star (Alt a b)) p) ≡ true ∷ true ∷ false ∷ []
reaches_p = refl

-- a test stays where its formula holds
tested : meaning three (Modal Diamond (Seq (Test p) b) (Const true)) ≡ false ∷ true ∷ false ∷ []
tested = refl

-- a and b in turn go on for ever from 0; with a test that fails on the way they don't
for_ever : meaning three (Repeat (Seq a b)) ≡ true ∷ false ∷ false ∷ []
for_ever = refl

not_for_ever : meaning three (Repeat (Seq a (Seq (Test (Not p)) b))) ≡ false ∷ false ∷ false ∷ []
not_for_ever = refl

-- none at all, for ever, is possible everywhere
stays_for_ever : meaning three (Repeat (Star a)) ≡ true ∷ true ∷ true ∷ []
stays_for_ever = refl
