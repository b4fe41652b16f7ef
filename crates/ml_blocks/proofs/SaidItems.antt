-- What the items of a set say of a place, each by itself.
--
--   Says m l y p        == the item y asks of the place p, or of the next one if it is put off
--   say_member, all_say == all items of a list say it, or each does
--   decided_within      == quantified formulas are decided within an occurrence too
--   decided_of          == what an item that comes of f asks is decided where those of f are
--   decided_say         == whether all items of a list say it is decided
--   ways_say            == the items of a way each say what they say together
--   later_origin        == what is put off at the end of a run was so before, or was put off by its item
--   path_states         == the places of a path are states
use Rattle.std.proofs.Common.{ℕ, ◌≡◌, ◌+◌, ◌<◌, ◌==◌, ◌&&◌, ◌⊎◌, inl, inr, true, false, Bool, List, [], ◌∷◌, codes, bytes_eq, refl, sym, subst, ⊎_elim, eqb-true}
use Rattle.std.proofs.lemmas.Bool.{and_parts}
use Rattle.ml_lists.specs.Lasso.{Lasso, entry, next_place}
use Rattle.ml_lists.specs.Member.{IsMember}
use Rattle.ml_lists.proofs.Member.{list_any-member, All-member}
use Rattle.ml_lists.proofs.Unrolling.{next_step}
use Rattle.ml_lists.proofs.Decided.{decided_both}
use Rattle.ml_lists.proofs.Deciding.{decided_not}
use Rattle.ml_base.specs.Structure.{Structure, IsStructure}
use Rattle.ml_base.specs.declared.structure.Edge.{Edge}
use Rattle.ml_text.specs.Operators.{weight}
use Rattle.ml_ctl.specs.Formula as plain
use Rattle.ml_ctl.specs.Formula.{Formula}
use Rattle.ml_ctl.specs.Laws.{IsDecided}
use Rattle.ml_ctl.specs.Meaning.{Property, TruthAt}
use Rattle.ml_ctl.specs.Paths.{IsPath, has_step}
use Rattle.ml_ctl.specs.Unrolled.{IsPlace}
use Rattle.ml_ctl.proofs.StepByStep.{next_is_place}
use Rattle.ml_blocks.specs.Items.{Item, row}
use Rattle.ml_blocks.specs.ItemSets.{put_all, without}
use Rattle.ml_blocks.specs.Laws.{Asks, AllSay, by_time, signed, QuantifiersAreDecided}
use Rattle.ml_blocks.proofs.DecidedTruth.{truth_is_decided}
use Rattle.ml_blocks.proofs.ItemSetMembers.{put_all-member, without-member}
use Rattle.ml_blocks.proofs.ItemsWithin.{IsOf, StandsAt, here, under_not, under_tense, at_left, at_right, before, behind, within_stands}
use Rattle.ml_blocks.proofs.LocalRuns.{Takes, LocalRun, settled, taken, Of, after_of, some_open, open_now}
use Rattle.ml_blocks.proofs.RowShapes.{Part, ways_parts}

abbrev pub Says : Structure → Lasso → Item → ℕ → Type 0
Says m l y p = by_time y.later (Asks m l y p) (Asks m l y (next_place l p))

module _ (m : Structure) (l : Lasso) where
  pub say_member : (P : Property) (ys : List Item) (p : ℕ) (y : Item)
      → AllSay m l P ys p
      → IsMember y ys
      → by_time y.later (Asks m l y p) (P (next_place l p))
  say_member P [] p y all none = absurd none
  say_member P (z ∷ zs) p y all (inl e) =
      subst (λ u. by_time u.later (Asks m l u p) (P (next_place l p))) (sym e) all.0
  say_member P (z ∷ zs) p y all (inr i) = say_member P zs p y all.1 i

  pub all_say : (P : Property) (ys : List Item) (p : ℕ)
      → ((y : Item) → IsMember y ys → by_time y.later (Asks m l y p) (P (next_place l p)))
      → AllSay m l P ys p
  all_say P [] p each = tt
  all_say P (z ∷ zs) p each = (each z (inl refl), all_say P zs p (λ y i. each y (inr i)))

  pub decided_within : (i : ℕ) (f : Formula) (j : ℕ) (g : Formula)
      → StandsAt i f j g
      → QuantifiersAreDecided m l f
      → QuantifiersAreDecided m l g
  decided_within i f j g (here _ _ _ _ at is) given = subst (QuantifiersAreDecided m l) (sym is) given
  decided_within i _ j g (under_not _ f _ _ s) given = decided_within (i + 1) f j g s given
  decided_within i _ j g (under_tense t _ f _ _ s) given = decided_within (i + 1) f j g s given
  decided_within i _ j g (at_left op _ f h _ _ s) given = decided_within (i + weight op) f j g s given.0
  decided_within i _ j g (at_right op _ f h _ _ s) given =
      decided_within (i + weight op + plain.occurrences f) h j g s given.1
  decided_within i _ j g (before p _ f h _ _ s) given = decided_within (i + 1) f j g s given.0
  decided_within i _ j g (behind p _ f h _ _ s) given = decided_within (i + 1 + plain.occurrences f) h j g s given.1

  pub decided_of : (first x : Item)
      → QuantifiersAreDecided m l first.formula
      → IsOf first x
      → QuantifiersAreDecided m l x.formula
  decided_of first x given of =
      decided_within first.number first.formula x.number x.formula
      (within_stands first.number first.formula first.positive _ of).stands given

  decided_sign : (b : Bool) (P : Type 0) → IsDecided P → IsDecided (signed b P)
  decided_sign true P d = d
  decided_sign false P d = decided_not d

  pub decided_ask : (x : Item) (p : ℕ) → QuantifiersAreDecided m l x.formula → IsPlace l p → IsDecided (Asks m l x p)
  decided_ask x p given place =
      decided_sign x.positive (TruthAt m l x.formula p) (truth_is_decided m l x.formula given p place)

  decided_time : (t : Bool) (P Q : Type 0) → IsDecided P → IsDecided Q → IsDecided (by_time t P Q)
  decided_time true P Q d e = e
  decided_time false P Q d e = d

  pub decided_say : (first x : Item) (ys : List Item) (p : ℕ)
      → QuantifiersAreDecided m l first.formula
      → IsOf first x
      → Of first ys
      → IsPlace l p
      → IsDecided (AllSay m l (Asks m l x) ys p)
  decided_say first x [] p given of_x of place = inl tt
  decided_say first x (y ∷ ys) p given of_x of place =
      decided_both
      (decided_time y.later (Asks m l y p) (Asks m l x (next_place l p))
      (decided_ask y p (decided_of first y given (of y (inl refl))) place)
      (decided_ask x (next_place l p) (decided_of first x given of_x) (next_is_place l p place)))
      (decided_say first x ys p given of_x (λ v i. of v (inr i)) place)

  pub ways_say : (x : Item) (ys : List Item) (p : ℕ)
      → Takes (row x) ys
      → AllSay m l (Asks m l x) ys p
      → (y : Item)
      → IsMember y ys
      → Says m l y p
  ways_say x ys p takes all y i =
      from (ways_parts x.number x.formula x.positive x.later ys takes y i) (say_member (Asks m l x) ys p y all i)
    where
      from : Part x.formula x y → by_time y.later (Asks m l y p) (Asks m l x (next_place l p)) → Says m l y p
      from (inl part) said =
          subst (λ t. by_time t (Asks m l y p) (Asks m l y (next_place l p))) (sym part.0)
          (subst (λ t. by_time t (Asks m l y p) (Asks m l x (next_place l p))) part.0 said)
      from (inr e) said =
          subst (λ z. Says m l z p) (sym e)
          (subst (λ z. by_time z.later (Asks m l z p) (Asks m l x (next_place l p))) e said)

-- ---- what is put off

pub record PutOffBy (first : Item) (Good : Item → List Item → Type 0) (y : Item) : Type 0 where
  pub by : Item
  pub ways : List Item
  pub takes : Takes (row by) ways
  pub good : Good by ways
  pub member : IsMember y ways
  pub of : IsOf first by
  pub is_now : by.later ≡ false

module _ (first : Item) (Good : Item → List Item → Type 0) where
  pub later_origin : (xs zs : List Item) → Of first xs → LocalRun Good xs zs → (y : Item) → IsMember y zs
      → IsMember y xs ⊎ PutOffBy first Good y
  later_origin xs zs of (settled _ _ e none) y m = inl (subst (IsMember y) e m)
  later_origin xs zs of (taken _ x ys _ is takes good r) y m =
      let found = some_open xs x is in
      ⊎_elim
      (λ (i : IsMember y (put_all ys (without x xs))).
      ⊎_elim
      (λ (a : IsMember y ys).
      let p : PutOffBy first Good y =
      record {
        by = x;
        ways = ys;
        takes = takes;
        good = good;
        member = a;
        of = of x found.0;
        is_now = (open_now x found.1).0;
      } in
      inr p)
      (λ (a : IsMember y (without x xs)). inl (without-member y x xs a))
      (put_all-member y ys (without x xs) i))
      (λ (p : PutOffBy first Good y). inr p)
      (later_origin (put_all ys (without x xs)) zs (after_of first xs x ys of is takes) r y m)

-- ---- states

pub step_states : (m : Structure) → IsStructure m → (s t : ℕ) → has_step m s t ≡ true → (s < m.states) × (t < m.states)
step_states m ok s t is =
    let test : Edge → Bool = λ e. (e.source == s) && bytes_eq e.action (codes "_") && (e.target == t) in
    let found = list_any-member test m.edges is in
    let parts = and_parts (((found.item).source == s) && bytes_eq (found.item).action (codes "_"))
    ((found.item).target == t) found.passes in
    let start = and_parts ((found.item).source == s) (bytes_eq (found.item).action (codes "_")) parts.0 in
    let ends =
    All-member (λ (e : Edge). (e.source < m.states) ×
    (e.target < m.states)) m.edges ok.joins_states found.item found.member in (
      subst (λ u. u < m.states) (eqb-true (found.item).source s start.0) ends.0,
      subst (λ u. u < m.states) (eqb-true (found.item).target t parts.1) ends.1,
    )

pub path_step : (m : Structure) (l : Lasso) → IsPath m l → (p : ℕ) → IsPlace l p
    → has_step m (entry l p) (entry l (next_place l p)) ≡ true
path_step m l path p place = next_step (λ s t. has_step m s t ≡ true) l path p place.1

pub path_states : (m : Structure) (l : Lasso)
    → IsStructure m
    → IsPath m l
    → (p : ℕ)
    → IsPlace l p
    → entry l p < m.states
path_states m l ok path p place = (step_states m ok (entry l p) (entry l (next_place l p)) (path_step m l path p place)).0
