-- Eventualities come true: the first way of their row is taken, and soon.
--
--   TwoWays m l x       == the row of x has two ways, and only in the second one x is put off
--   two_ways            == of each eventuality
--   eventualities_come_true == the law
use Rattle.std.proofs.Common.{ℕ, zero, suc, ◌≡◌, ◌+◌, ◌<◌, ◌⊎◌, Bool, true, false, List, [], ◌∷◌, inl, inr, arith, refl, sym, ap, ◌∙◌, subst, ⊎_elim}
use Rattle.std.proofs.lemmas.Bool.{false≢true}
use Rattle.ml_lists.specs.Lasso.{Lasso, next_place}
use Rattle.ml_lists.specs.Member.{IsMember}
use Rattle.ml_lists.specs.Walk.{walk}
use Rattle.ml_base.specs.Structure.{Structure}
use Rattle.ml_ctl.specs.Formula as plain
use Rattle.ml_ctl.specs.Formula.{Formula, occurrences}
use Rattle.ml_ctl.specs.declared.term.Tense.TheVariants as tense
use Rattle.ml_ctl.specs.declared.term.Pairing.TheVariants as pairing
use Rattle.ml_ctl.specs.Meaning.{Property, Nowhere, iterate_of}
use Rattle.ml_ctl.specs.Paths.{places}
use Rattle.ml_ctl.proofs.PlaceWalks.{walk-shift}
use Rattle.ml_ctl.proofs.StepByStep.{closed}
use Rattle.ml_blocks.specs.Items.{Item, Either, now, put_off, row}
use Rattle.ml_ctl.specs.Eventualities.{is_eventual}
use Rattle.ml_blocks.specs.Laws.{Asks, AllSay, SaysBy, RowSays, QuantifiersAreDecided, EventualitiesComeTrue}
use Rattle.ml_blocks.proofs.ItemSetMembers.{AreNow}
use Rattle.ml_blocks.proofs.RowsOfItems.{item, rows_say_the_same, eventualities_are_least}

pub record TwoWays (m : Structure) (l : Lasso) (x : Item) : Type 1 where
  pub first : List Item
  pub second : List Item
  pub is_row : row x ≡ Either first second
  pub put : IsMember (put_off x) second
  pub all_now : AreNow first
  pub here_alone : (P Q : Property) (y : ℕ) → AllSay m l P first y → AllSay m l Q first y
  pub puts_off : (P : Property) (y : ℕ) → AllSay m l P second y → P (next_place l y)
  pub exchanged : (P Q : Property) (y : ℕ) → AllSay m l P second y → Q (next_place l y) → AllSay m l Q second y

one_now : (x y : Item) → x.later ≡ false → IsMember y (x ∷ []) → y.later ≡ false
one_now x y is (inl e) = ap (λ z. z.later) e ∙ is
one_now x y is (inr none) = absurd none

two_now : (x z y : Item) → x.later ≡ false → z.later ≡ false → IsMember y (x ∷ z ∷ []) → y.later ≡ false
two_now x z y is also (inl e) = ap (λ u. u.later) e ∙ is
two_now x z y is also (inr m) = one_now z y also m

pub two_ways : (m : Structure) (l : Lasso) (i : ℕ) (f : Formula) (b t : Bool)
    → is_eventual f b ≡ true
    → TwoWays m l (item i f b t)
two_ways m l i (plain.Const c) b t least = absurd (false≢true least)
two_ways m l i (plain.Prop p) b t least = absurd (false≢true least)
two_ways m l i (plain.Not f) b t least = absurd (false≢true least)
two_ways m l i (plain.Binary op f g) b t least = absurd (false≢true least)
two_ways m l i (plain.Quantified q f) b t least = absurd (false≢true least)
two_ways m l i (plain.Temporal tense.Next f) b t least = absurd (false≢true least)
two_ways m l i (plain.Temporal tense.Finally f) false t least = absurd (false≢true least)
two_ways m l i (plain.Temporal tense.Globally f) true t least = absurd (false≢true least)
two_ways m l i (plain.Paired pairing.Until f g) false t least = absurd (false≢true least)
two_ways m l i (plain.Paired pairing.Release f g) true t least = absurd (false≢true least)
two_ways m l i (plain.Paired pairing.Weak f g) true t least = absurd (false≢true least)
two_ways m l i (plain.Temporal tense.Finally f) true t least = record {
  first = now (i + 1) f true ∷ [];
  second = put_off (item i (plain.Temporal tense.Finally f) true t) ∷ [];
  is_row = refl;
  put = inl refl;
  all_now = λ y m. one_now (now (i + 1) f true) y refl m;
  here_alone = λ P Q y says. says;
  puts_off = λ P y says. says.0;
  exchanged = λ P Q y says behind. (behind, tt);
}
two_ways m l i (plain.Temporal tense.Globally f) false t least = record {
  first = now (i + 1) f false ∷ [];
  second = put_off (item i (plain.Temporal tense.Globally f) false t) ∷ [];
  is_row = refl;
  put = inl refl;
  all_now = λ y m. one_now (now (i + 1) f false) y refl m;
  here_alone = λ P Q y says. says;
  puts_off = λ P y says. says.0;
  exchanged = λ P Q y says behind. (behind, tt);
}
two_ways m l i (plain.Paired pairing.Until f g) true t least = record {
  first = now (i + 1 + occurrences f) g true ∷ [];
  second = now (i + 1) f true ∷ put_off (item i (plain.Paired pairing.Until f g) true t) ∷ [];
  is_row = refl;
  put = inr (inl refl);
  all_now = λ y m. one_now (now (i + 1 + occurrences f) g true) y refl m;
  here_alone = λ P Q y says. says;
  puts_off = λ P y says. (says.1).0;
  exchanged = λ P Q y says behind. (says.0, (behind, tt));
}
two_ways m l i (plain.Paired pairing.Release f g) false t least = record {
  first = now (i + 1 + occurrences f) g false ∷ [];
  second = now (i + 1) f false ∷ put_off (item i (plain.Paired pairing.Release f g) false t) ∷ [];
  is_row = refl;
  put = inr (inl refl);
  all_now = λ y m. one_now (now (i + 1 + occurrences f) g false) y refl m;
  here_alone = λ P Q y says. says;
  puts_off = λ P y says. (says.1).0;
  exchanged = λ P Q y says behind. (says.0, (behind, tt));
}
two_ways m l i (plain.Paired pairing.Weak f g) false t least = record {
  first = now (i + 1 + occurrences f) g false ∷ now (i + 1) f false ∷ [];
  second = now (i + 1 + occurrences f) g false ∷ put_off (item i (plain.Paired pairing.Weak f g) false t) ∷ [];
  is_row = refl;
  put = inr (inl refl);
  all_now = λ y m. two_now (now (i + 1 + occurrences f) g false) (now (i + 1) f false) y refl refl m;
  here_alone = λ P Q y says. says;
  puts_off = λ P y says. (says.1).0;
  exchanged = λ P Q y says behind. (says.0, (behind, tt));
}

module _ (m : Structure) (l : Lasso) (x : Item) (starts : l.start < places l)
    (given : QuantifiersAreDecided m l x.formula) (w : TwoWays m l x) where
  abbrev next : ℕ → ℕ
  next = next_place l

  abbrev step : Property → Property
  step P = RowSays m l P x

  abbrev A : Property
  A = Asks m l x

  abbrev Taken : Property → ℕ → Type 0
  Taken P y = AllSay m l P w.first y ⊎ AllSay m l P w.second y

  taken : (P : Property) (y : ℕ) → step P y → Taken P y
  taken P y says = subst (λ r. SaysBy m l P x r y) w.is_row says

  asked : (y : ℕ) → y < places l → Taken A y → A y
  asked y low taken =
      (rows_say_the_same m l x y (starts, low) given).1 (subst (λ r. SaysBy m l A x r y) (sym w.is_row) taken)

  -- what an iterate says is asked
  asks : (k y : ℕ) → y < places l → iterate_of k step Nowhere y → A y
  asks zero y low none = absurd none
  asks (suc k) y low says =
      asked y low
      (⊎_elim
      (λ (first : AllSay m l (iterate_of k step Nowhere) w.first y).
      inl (w.here_alone (iterate_of k step Nowhere) A y first))
      (λ (second : AllSay m l (iterate_of k step Nowhere) w.second y).
      let behind = w.puts_off (iterate_of k step Nowhere) y second in
      inr (w.exchanged (iterate_of k step Nowhere) A y second (asks k (next y) (closed l starts y low) behind)))
      (taken (iterate_of k step Nowhere) y says))

  abbrev Comes : ℕ → ℕ → Type 0
  Comes k y = (j : ℕ) × (j < k) × AllSay m l A w.first (walk next y j)
      × ((h : ℕ) → h < j → AllSay m l A w.second (walk next y h))

  later : (k y : ℕ) → AllSay m l A w.second y → Comes k (next y) → Comes (suc k) y
  later k y here (j, low, first, before) =
      (suc j, (omega (arith, low)), subst (AllSay m l A w.first) (walk-shift next y j) first, on_the_way)
    where
      on_the_way : (h : ℕ) → h < suc j → AllSay m l A w.second (walk next y h)
      on_the_way zero under = here
      on_the_way (suc h) under = subst (AllSay m l A w.second) (walk-shift next y h) (before h (omega arith))

  comes : (k y : ℕ) → y < places l → iterate_of k step Nowhere y → Comes k y
  comes zero y low none = absurd none
  comes (suc k) y low says =
      ⊎_elim
      (λ (first : AllSay m l (iterate_of k step Nowhere) w.first y). (
        0,
        (omega arith),
        w.here_alone (iterate_of k step Nowhere) A y first,
        (λ h under. absurd (omega arith)),
      ))
      (λ (second : AllSay m l (iterate_of k step Nowhere) w.second y).
      let behind = w.puts_off (iterate_of k step Nowhere) y second in
      let low_behind = closed l starts y low in
      later k y (w.exchanged (iterate_of k step Nowhere) A y second (asks k (next y) low_behind behind))
      (comes k (next y) low_behind behind)) (taken (iterate_of k step Nowhere) y says)

pub eventualities_come_true : EventualitiesComeTrue
eventualities_come_true m l x i place given least asks =
    let w = two_ways m l x.number x.formula x.positive x.later least in
    let says = (eventualities_are_least m l x i place given least).0 asks in
    let c = comes m l x place.0 given w (places l) i place.1 says in
    record {
      first = w.first;
      second = w.second;
      is_row = w.is_row;
      steps = c.0;
      soon = c.1;
      there = c.2;
      until_then = c.3;
    }
