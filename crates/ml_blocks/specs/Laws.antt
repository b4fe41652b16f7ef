-- What items say of a path, and that rows say the same.
--
-- An item is decomposed by its row again and again, at one place after the other. Where it is an eventuality it says the
-- least that its row allows, so it may not be put off for ever; where it is none, the greatest. Among as many places as a
-- path has, as many iterates reach both.
--
--   signed b P           == P, or that P fails
--   Asks m l x i         == what x asks, of the place i of the path l: that its formula be true there, or false
--   RowSays m l P x i    == what the row of x says of the place i, where P is asked of the next place if x is put off
--   QuantifiersAreDecided m l f == at each place of l each quantified formula within f holds or doesn't, but those within
--                           others
--   TruthIsDecided       == then f is true or not at each place
--   RowsSayTheSame       == an item asks what its row says
--   EventualitiesAreLeast == an eventuality asks what the iterates of its row from nowhere say
--   OthersAreGreatest    == each other item asks what the iterates of its row from everywhere say
--   EventualitiesComeTrue == an eventuality takes the first way of its row at a place less steps ahead than the path has
--                           places, and the second way until then
use Rattle.std.specs.Prelude.{ℕ, ◌≡◌, ◌<◌, ◌⊎◌, ◌↔◌, Bool, true, false, List, [], ◌∷◌}
use Rattle.ml_lists.specs.Lasso.{Lasso, entry, next_place}
use Rattle.ml_base.specs.Structure.{Structure}
use Rattle.ml_ctl.specs.Formula.{Formula, Const, Prop, Not, Binary, Temporal, Paired, Quantified}
use Rattle.ml_ctl.specs.Laws.{IsDecidedAlong}
use Rattle.ml_ctl.specs.Meaning.{Property, Nowhere, Everywhere, iterate_of, TruthAt, HoldsAt}
use Rattle.ml_ctl.specs.Paths.{places}
use Rattle.ml_ctl.specs.Unrolled.{IsPlace, after}
use Rattle.ml_blocks.specs.Items.{Item, Row, OfState, Waits, Becomes, Either, row, behind_next, is_least}

-- ---- what items say

abbrev pub signed : Bool → Type 0 → Type 0
signed true P = P
signed false P = P → ⊥

abbrev pub Asks : Structure → Lasso → Item → Property
Asks m l x i = signed x.positive (TruthAt m l x.formula i)

abbrev pub by_time : (later : Bool) → Type 0 → Type 0 → Type 0
by_time false here behind = here
by_time true here behind = behind

-- what all these items say of a place, where P is asked of the next place by the one that is put off
abbrev pub AllSay : Structure → Lasso → Property → List Item → Property
AllSay m l P [] i = Unit {0}
AllSay m l P (y ∷ ys) i = by_time y.later (Asks m l y i) (P (next_place l i)) × AllSay m l P ys i

abbrev pub SaysBy : Structure → Lasso → Property → Item → Row → Property
SaysBy m l P x OfState i = signed x.positive (HoldsAt m x.formula (entry l i))
SaysBy m l P x Waits i = Asks m l (behind_next x) (next_place l i)
SaysBy m l P x (Becomes ys) i = AllSay m l P ys i
SaysBy m l P x (Either ys zs) i = AllSay m l P ys i ⊎ AllSay m l P zs i

abbrev pub RowSays : Structure → Lasso → Property → Item → Property
RowSays m l P x i = SaysBy m l P x (row x) i

-- ---- the laws

abbrev pub QuantifiersAreDecided : Structure → Lasso → Formula → Type 0
QuantifiersAreDecided m l (Const b) = Unit {0}
QuantifiersAreDecided m l (Prop p) = Unit {0}
QuantifiersAreDecided m l (Not f) = QuantifiersAreDecided m l f
QuantifiersAreDecided m l (Binary op f g) = QuantifiersAreDecided m l f × QuantifiersAreDecided m l g
QuantifiersAreDecided m l (Temporal t f) = QuantifiersAreDecided m l f
QuantifiersAreDecided m l (Paired p f g) = QuantifiersAreDecided m l f × QuantifiersAreDecided m l g
QuantifiersAreDecided m l (Quantified q f) = IsDecidedAlong m l (Quantified q f)

abbrev pub TruthIsDecided : Type 0
TruthIsDecided = (m : Structure) (l : Lasso) (f : Formula) → QuantifiersAreDecided m l f → IsDecidedAlong m l f

abbrev pub RowsSayTheSame : Type 0
RowsSayTheSame = (m : Structure) (l : Lasso) (x : Item) (i : ℕ) → IsPlace l i → QuantifiersAreDecided m l x.formula
    → Asks m l x i ↔ RowSays m l (Asks m l x) x i

abbrev pub EventualitiesAreLeast : Type 0
EventualitiesAreLeast = (m : Structure) (l : Lasso) (x : Item) (i : ℕ) → IsPlace l i → QuantifiersAreDecided m l x.formula
    → is_least x ≡ true
    → Asks m l x i ↔ iterate_of (places l) (λ P. RowSays m l P x) Nowhere i

abbrev pub OthersAreGreatest : Type 0
OthersAreGreatest = (m : Structure) (l : Lasso) (x : Item) (i : ℕ) → IsPlace l i → QuantifiersAreDecided m l x.formula
    → is_least x ≡ false
    → Asks m l x i ↔ iterate_of (places l) (λ P. RowSays m l P x) Everywhere i

-- the first way is taken so many steps ahead, and the second one until then
pub record ComesTrue (m : Structure) (l : Lasso) (x : Item) (i : ℕ) : Type 0 where
  pub first : List Item
  pub second : List Item
  pub is_row : row x ≡ Either first second
  pub steps : ℕ
  pub soon : steps < places l
  pub there : AllSay m l (Asks m l x) first (after l i steps)
  pub until_then : (j : ℕ) → j < steps → AllSay m l (Asks m l x) second (after l i j)

abbrev pub EventualitiesComeTrue : Type 0
EventualitiesComeTrue = (m : Structure) (l : Lasso) (x : Item) (i : ℕ) → IsPlace l i → QuantifiersAreDecided m l x.formula
    → is_least x ≡ true
    → Asks m l x i
    → ComesTrue m l x i
