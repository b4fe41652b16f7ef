-- Runs of a block at one place: its items are decomposed until what is left asks of the next place alone.
--
--   Takes r ys            == ys is what the row r puts in the place of its item, in one of its ways
--   LocalRun Good xs zs   == xs is decomposed into zs, and Good is known of each item and of what it became
--   Seen r v              == the item v comes up in the run r
--   Decomposed            == how a now-item that comes up goes on: what it became, and that this comes up or is left
--   decomposed            == each that isn't an X does so
--   Waiting               == what is left of a run: it is put off, or is an X
--   run_of                == a run is made by choosing the ways one after the other
use Rattle.std.proofs.Common.{◌≡◌, ◌⊎◌, inl, inr, true, false, not, ◌&&◌, List, [], ◌∷◌, Some, None, refl, sym, ap, subst, ◌∙◌, ⊎_elim}
use Rattle.std.proofs.lemmas.Bool.{cases_Bool, cases_eq, cond-true, cond-false, and_parts, false≢true, not-true}
use Rattle.std.proofs.lemmas.Option.{same_Some}
use Rattle.ml_lists.specs.Member.{IsMember}
use Rattle.ml_blocks.specs.Items.{Item, Row, OfState, Waits, Becomes, Either, row, behind_next}
use Rattle.ml_blocks.specs.ItemSets.{key, due, next_of, put_all, without}
use Rattle.ml_blocks.specs.Places.{is_open, is_wait, first_open}
use Rattle.ml_blocks.proofs.ItemSetMembers.{put_all-all_of, put_all-has, put_all-keeps, without-member, without-keeps}
use Rattle.ml_blocks.proofs.ItemsFollow.{FollowsBy, follows_of}
use Rattle.ml_blocks.proofs.ItemsWithin.{IsOf, same_key}

abbrev pub Takes : Row → List Item → Type 0
Takes OfState ys = ys ≡ []
Takes Waits ys = ⊥
Takes (Becomes zs) ys = ys ≡ zs
Takes (Either zs ws) ys = (ys ≡ zs) ⊎ (ys ≡ ws)

pub data LocalRun (Good : Item → List Item → Type 0) : List Item → List Item → Type 0 where
  settled : (xs zs : List Item) → zs ≡ xs → first_open xs ≡ None → LocalRun Good xs zs
  taken : (xs : List Item) (x : Item) (ys zs : List Item)
      → first_open xs ≡ Some x
      → Takes (row x) ys
      → Good x ys
      → LocalRun Good (put_all ys (without x xs)) zs
      → LocalRun Good xs zs

abbrev pub Seen : {Good : Item → List Item → Type 0} {xs zs : List Item} → LocalRun Good xs zs → Item → Type 0
Seen (settled xs zs e none) v = IsMember v xs
Seen (taken xs x ys zs first takes good r) v = IsMember v xs ⊎ Seen r v

-- ---- the first item that is to be decomposed

pub none_open : (xs : List Item) → first_open xs ≡ None → (v : Item) → IsMember v xs → is_open v ≡ false
none_open [] e v none = absurd none
none_open (x ∷ xs) e v m = by_test (cases_Bool (is_open x)) (none_open xs) m
  where
    by_test : (is_open x ≡ true) ⊎ (is_open x ≡ false)
        → (first_open xs ≡ None → (w : Item) → IsMember w xs → is_open w ≡ false)
        → IsMember v (x ∷ xs)
        → is_open v ≡ false
    by_test (inl passes) rest h = let here = cond-true (is_open x) (Some x) (first_open xs) passes in cc
    by_test (inr fails) rest (inl same) = ap is_open same ∙ fails
    by_test (inr fails) rest (inr later) =
        rest (sym (cond-false (is_open x) (Some x) (first_open xs) fails) ∙ e) v later

pub some_open : (xs : List Item) (x : Item) → first_open xs ≡ Some x → IsMember x xs × (is_open x ≡ true)
some_open [] x e = absurd (cc)
some_open (y ∷ ys) x e = by_test (cases_Bool (is_open y)) (some_open ys x)
  where
    later : IsMember x ys × (is_open x ≡ true) → IsMember x (y ∷ ys) × (is_open x ≡ true)
    later (m, is) = (inr m, is)

    by_test : (is_open y ≡ true) ⊎ (is_open y ≡ false)
        → (first_open ys ≡ Some x → IsMember x ys × (is_open x ≡ true))
        → IsMember x (y ∷ ys) × (is_open x ≡ true)
    by_test (inl passes) rest =
        let same : x ≡ y = same_Some _ _ (sym e ∙ cond-true (is_open y) (Some y) (first_open ys) passes) in
        (inl same, ap is_open same ∙ passes)
    by_test (inr fails) rest = later (rest (sym (cond-false (is_open y) (Some y) (first_open ys) fails) ∙ e))

pub open_now : (x : Item) → is_open x ≡ true → (x.later ≡ false) × (is_wait (row x) ≡ false)
open_now x e =
    let both = and_parts (not x.later) (not (is_wait (row x))) e in
    (not-true x.later both.0, not-true (is_wait (row x)) both.1)

pub is_open_if : (x : Item) → x.later ≡ false → is_wait (row x) ≡ false → is_open x ≡ true
is_open_if x now moves = ap (λ b. not b && not (is_wait (row x))) now ∙ ap (λ b. true && not b) moves

-- ---- what comes up

takes_follow : (r : Row) (ys : List Item) (x y : Item) → Takes r ys → IsMember y ys → FollowsBy y x r
takes_follow OfState ys x y e m = subst (IsMember y) e m
takes_follow Waits ys x y none m = absurd none
takes_follow (Becomes zs) ys x y e m = subst (IsMember y) e m
takes_follow (Either zs ws) ys x y (inl e) m = inl (subst (IsMember y) e m)
takes_follow (Either zs ws) ys x y (inr e) m = inr (subst (IsMember y) e m)

module _ (first : Item) where
  abbrev pub Of : List Item → Type 0
  Of xs = (v : Item) → IsMember v xs → IsOf first v

  pub taken_of : (x : Item) (ys : List Item) → IsOf first x → x.later ≡ false → Takes (row x) ys → Of ys
  taken_of x ys of now takes y m = follows_of first x y now of (takes_follow (row x) ys x y takes m)

  pub after_of : (xs : List Item) (x : Item) (ys : List Item)
      → Of xs
      → first_open xs ≡ Some x
      → Takes (row x) ys
      → Of (put_all ys (without x xs))
  after_of xs x ys of is takes =
      let found = some_open xs x is in
      put_all-all_of (IsOf first) (same_key first) ys (without x xs)
      (taken_of x ys (of x found.0) (open_now x found.1).0 takes) (λ v m. of v (without-member v x xs m))

  module _ (Good : Item → List Item → Type 0) where
    pub left_of : (xs zs : List Item) → Of xs → LocalRun Good xs zs → Of zs
    left_of xs zs of (settled _ _ e none) = subst Of (sym e) of
    left_of xs zs of (taken _ x ys _ is takes good r) =
        left_of (put_all ys (without x xs)) zs (after_of xs x ys of is takes) r

    pub seen_first : (xs zs : List Item) (r : LocalRun Good xs zs) (v : Item) → IsMember v xs → Seen r v
    seen_first xs zs (settled _ _ e none) v m = m
    seen_first xs zs (taken _ x ys _ is takes good r) v m = inl m

    -- an item other than x stays
    stays : (xs : List Item) (x : Item) (ys : List Item) (v : Item)
        → IsMember v xs
        → (key v ≡ key x → ⊥)
        → IsMember v (put_all ys (without x xs))
    stays xs x ys v m apart = put_all-keeps v ys (without x xs) (without-keeps v x xs m apart)

    -- what isn't to be decomposed is left
    pub left_waits : (xs zs : List Item) → Of xs → LocalRun Good xs zs → (v : Item) → is_open v ≡ false → IsMember v xs
        → IsMember v zs
    left_waits xs zs of (settled _ _ e none) v shut m = subst (IsMember v) (sym e) m
    left_waits xs zs of (taken _ x ys _ is takes good r) v shut m =
        let found = some_open xs x is in
        left_waits (put_all ys (without x xs)) zs (after_of xs x ys of is takes) r v shut
        (stays xs x ys v m (λ same. let e = same_key first v x (of v m) (of x found.0) same in
        false≢true (sym shut ∙ ap is_open e ∙ found.1)))

    pub seen_waits : (xs zs : List Item) → Of xs → (r : LocalRun Good xs zs) → (v : Item) → is_open v ≡ false → Seen r v
        → IsMember v zs
    seen_waits xs zs of (settled _ _ e none) v shut m = subst (IsMember v) (sym e) m
    seen_waits xs zs of (taken _ x ys _ is takes good r) v shut (inl m) =
        left_waits xs zs of (taken xs x ys zs is takes good r) v shut m
    seen_waits xs zs of (taken _ x ys _ is takes good r) v shut (inr s) =
        seen_waits (put_all ys (without x xs)) zs (after_of xs x ys of is takes) r v shut s

    pub seen_of : (xs zs : List Item) → Of xs → (r : LocalRun Good xs zs) → (v : Item) → Seen r v → IsOf first v
    seen_of xs zs of (settled _ _ e none) v m = of v m
    seen_of xs zs of (taken _ x ys _ is takes good r) v (inl m) = of v m
    seen_of xs zs of (taken _ x ys _ is takes good r) v (inr s) =
        seen_of (put_all ys (without x xs)) zs (after_of xs x ys of is takes) r v s

    -- what an item became comes up
    pub record Decomposed (xs zs : List Item) (r : LocalRun Good xs zs) (v : Item) : Type 0 where
      pub ways : List Item
      pub takes : Takes (row v) ways
      pub good : Good v ways
      pub come_up : (y : Item) → IsMember y ways → Seen r y

    lifted : (xs : List Item) (x : Item) (ys zs : List Item) (is : first_open xs ≡ Some x) (takes : Takes (row x) ys)
        (good : Good x ys) (r : LocalRun Good (put_all ys (without x xs)) zs) (v : Item)
        → Decomposed (put_all ys (without x xs)) zs r v
        → Decomposed xs zs (taken xs x ys zs is takes good r) v
    lifted xs x ys zs is takes good r v d = record {
      ways = d.ways;
      takes = d.takes;
      good = d.good;
      come_up = λ y m. inr (d.come_up y m);
    }

    -- x itself
    at_once : (xs : List Item) (x : Item) (ys zs : List Item) (of : Of xs) (is : first_open xs ≡ Some x)
        (takes : Takes (row x) ys)
        (good : Good x ys) (r : LocalRun Good (put_all ys (without x xs)) zs)
        → Decomposed xs zs (taken xs x ys zs is takes good r) x
    at_once xs x ys zs of is takes good r =
        let found = some_open xs x is in
        record {
          ways = ys;
          takes = takes;
          good = good;
          come_up = λ y m. inr (seen_first (put_all ys (without x xs)) zs r y
              (put_all-has (IsOf first) (same_key first) ys (without x xs)
              (taken_of x ys (of x found.0) (open_now x found.1).0 takes) (λ v i. of v (without-member v x xs i)) y m));
        }

    pub decomposed : (xs zs : List Item) → Of xs → (r : LocalRun Good xs zs) → (v : Item) → is_open v ≡ true → Seen r v
        → Decomposed xs zs r v
    decomposed xs zs of (settled _ _ e none) v opens m = absurd (false≢true (sym (none_open xs none v m) ∙ opens))
    decomposed xs zs of (taken _ x ys _ is takes good r) v opens (inl m) =
        ⊎_elim
        (λ (same : key v ≡ key x).
        let e = same_key first v x (of v m) (of x (some_open xs x is).0) same in
        subst (Decomposed xs zs (taken xs x ys zs is takes good r)) (sym e) (at_once xs x ys zs of is takes good r))
        (λ (apart : key v ≡ key x → ⊥).
        lifted xs x ys zs is takes good r v
        (decomposed (put_all ys (without x xs)) zs (after_of xs x ys of is takes) r v opens
        (seen_first (put_all ys (without x xs)) zs r v (stays xs x ys v m apart))))
        (cases_eq (key v) (key x))
    decomposed xs zs of (taken _ x ys _ is takes good r) v opens (inr s) =
        lifted xs x ys zs is takes good r v
        (decomposed (put_all ys (without x xs)) zs (after_of xs x ys of is takes) r v opens s)

    pub left_settled : (xs zs : List Item) → LocalRun Good xs zs → first_open zs ≡ None
    left_settled xs zs (settled _ _ e none) = ap first_open e ∙ none
    left_settled xs zs (taken _ x ys _ is takes good r) = left_settled (put_all ys (without x xs)) zs r

-- ---- what is asked of the next place

is_waits : (r : Row) → is_wait r ≡ true → r ≡ Waits
is_waits OfState wrong = absurd (false≢true wrong)
is_waits Waits e = refl
is_waits (Becomes ys) wrong = absurd (false≢true wrong)
is_waits (Either ys zs) wrong = absurd (false≢true wrong)

-- an item that isn't to be decomposed is put off, or waits
pub waiting : (x : Item) → is_open x ≡ false → (x.later ≡ true) ⊎ ((x.later ≡ false) × (row x ≡ Waits))
waiting x shut = from (cases_Bool x.later) (cases_Bool (is_wait (row x)))
  where
    from : (x.later ≡ true) ⊎ (x.later ≡ false)
        → (is_wait (row x) ≡ true) ⊎ (is_wait (row x) ≡ false)
        → (x.later ≡ true) ⊎ ((x.later ≡ false) × (row x ≡ Waits))
    from (inl later) w = inl later
    from (inr now) (inl w) = inr (now, is_waits (row x) w)
    from (inr now) (inr moves) = absurd (false≢true (sym shut ∙ is_open_if x now moves))

pub next_of_of : (first x : Item) → IsOf first x → is_open x ≡ false → IsOf first (next_of x)
next_of_of first x of shut = from (waiting x shut)
  where
    from : (x.later ≡ true) ⊎ ((x.later ≡ false) × (row x ≡ Waits)) → IsOf first (next_of x)
    from (inl later) = subst (IsOf first) (sym (cond-true x.later (due x) (behind_next x) later)) of
    from (inr (now, waits)) =
        subst (IsOf first) (sym (cond-false x.later (due x) (behind_next x) now))
        (follows_of first x (behind_next x) now of (subst (FollowsBy (behind_next x) x) (sym waits) refl))
