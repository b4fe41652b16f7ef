-- A position gets a number: that of an equal position, or a new one.
--
--   different_more == different positions, and one that isn't among them, are different
--   shown_same     == what was added to the tables changes no position
--   chosen_pool, chosen_added == the same for a position with a side more, which is a new one
--   shown_at       == a position is shown at its place
--   shown_there, stored_at == a position that is stored is shown, and one that is shown is stored
--   same_site      == positions with one sequent and one history have them at the same places
--   site_shown     == and those that have them at the same places have one
--   added_stored   == what was stored before stands before what is added
--   still_pool, still_added == behind an addition the pool keeps what it has to, and has the position
use Rattle.std.proofs.Common.{ℕ, suc, ◌≡◌, ◌+◌, ◌<◌, ◌≤◌, ◌⊎◌, inl, inr, List, [], ◌∷◌, ◌++◌, length, map, slice_get, get_or, Some, refl, sym, ap, ◌∙◌, subst, arith}
use Rattle.std.specs.Option.{option_map}
use Rattle.std.proofs.lemmas.List.{length-map, map_push}
use Rattle.std.proofs.lemmas.Option.{slice_get_within, slice_get-get_or, slice_get-map, get_or_from_slice_get}
use Rattle.ml_lists.specs.Member.{IsMember}
use Rattle.ml_lists.proofs.Member.{Image, member-map, member-map_from, member-append}
use Rattle.ml_sequent.specs.declared.choice.Side.{Side}
use Rattle.ml_sequent.specs.Choice.{with_side}
use Rattle.ml_trace.specs.Stack.{Item}
use Rattle.ml_product.specs.Position.{Position}
use Rattle.ml_product.specs.DecisionGame.{AreDifferent}
use Rattle.ml_product.specs.declared.pool.Pool.{Pool}
use Rattle.ml_product.specs.declared.stored.Site.{Site}
use Rattle.ml_product.specs.declared.stored.Top.{Top}
use Rattle.ml_product.specs.private.Numbers.{Leads}
use Rattle.ml_product.specs.Placed.{Placed, nowhere, choice_at}
use Rattle.ml_product.specs.private.Links.{site_of, top_of}
use Rattle.ml_product.specs.private.Shared.{seen, shown, IsWithin, AreWithin}
use Rattle.ml_product.specs.private.Pools.{positions_of, IsPool, KeepsPool, beside, IsLonger}
use Rattle.ml_lists.specs.Added.{IsAdded}
use Rattle.ml_product.proofs.Naming.{stands_last, still_leads}
use Rattle.ml_product.proofs.OnePlace.{PlaceOf, place_of}
use Rattle.ml_product.proofs.ReachedChoices.{with_side_some}
use Rattle.ml_product.proofs.Vertices.{longer_self}
use Rattle.ml_lists.proofs.Added.{added_all, added_once, added_long, added_early, added_get}

-- different positions, and one that isn't among them
pub different_more : (ps : List Position) (p : Position)
    → AreDifferent ps
    → ¬ (IsMember p ps)
    → AreDifferent (ps ++ p ∷ [])
different_more [] p apart new = (λ m. m, tt)
different_more (q ∷ ps) p apart new = (
  λ m. by_part (member-append q ps (p ∷ []) m),
  different_more ps p apart.1 (λ m. new (inr m)),
)
  where
    by_part : IsMember q ps ⊎ IsMember q (p ∷ []) → ⊥
    by_part (inl there) = apart.0 there
    by_part (inr (inl same)) = new (inl (sym same))
    by_part (inr (inr none)) = none

-- maps that agree where something stands
map_alike : {X Y : Type 0} (f h : X → Y) (xs : List X) → ((k : ℕ) (x : X) → slice_get xs k ≡ Some x → f x ≡ h x)
    → map f xs ≡ map h xs
map_alike f h [] alike = refl
map_alike f h (x ∷ xs) alike =
    let here = alike 0 x refl in
    let rest = map_alike f h xs (λ k y at. alike (suc k) y at) in
    λ i. here i ∷ rest i

module _ (ss ts : List (List ℕ)) (hs gs : List (List (Item ℕ))) (xs ys : List Placed)
    (s : List ℕ) (h : List (Item ℕ)) (x : Placed) (v : ℕ) (ks : List Top) (ls : List ℕ)
    (pool : IsPool ss hs xs ks ls)
    (at_s : IsAdded ss s ts x.sequent)
    (at_h : IsAdded hs h gs x.history)
    (at_x : IsAdded xs x ys v) where
  seen_same : (k : ℕ) (y : Placed) → slice_get xs k ≡ Some y → seen ts gs y ≡ seen ss hs y
  seen_same k y at =
      let w = pool.within k y at in
      let sequents = added_get ss ts s x.sequent at_s y.sequent [] w.sequent in
      let histories = added_get hs gs h x.history at_h y.history [] w.history in
      λ i. record { sequent = sequents i; history = histories i; priority = y.priority; choice = y.choice }

  -- what was added to the tables changes no position
  pub shown_same : shown ts gs xs ≡ shown ss hs xs
  shown_same = map_alike (seen ts gs) (seen ss hs) xs seen_same

  is_within : IsWithin ts gs x
  is_within = record {
    sequent = slice_get_within ts x.sequent s at_s.stands;
    history = slice_get_within gs x.history h at_h.stands;
  }

  old_within : (k : ℕ) (y : Placed) → slice_get xs k ≡ Some y → IsWithin ts gs y
  old_within k y at =
      let w = pool.within k y at in record {
        sequent = omega (arith, w.sequent, (added_long ss ts s x.sequent at_s).0);
        history = omega (arith, w.history, (added_long hs gs h x.history at_h).0);
      }

  all_within : AreWithin ts gs ys
  all_within k y at = added_all xs ys x v at_x (IsWithin ts gs) old_within is_within k y at

  few : {Y : Type 0} (us bs : List Y) (b : Y) (i : ℕ)
      → IsAdded us b bs i
      → length us ≤ length xs
      → (ys ≡ xs → i < length us)
      → length bs ≤ length ys
  few us bs b i a less early = by_kind at_x.grown
    where
      by_kind : (ys ≡ xs) ⊎ ((ys ≡ xs ++ x ∷ []) × ¬ (IsMember x xs)) → length bs ≤ length ys
      by_kind (inl old) =
          let e = ap length (added_early us bs b i a (early old)) in let f = ap length old in omega arith
      by_kind (inr new) =
          let e : length ys ≡ length xs + 1 = ap length new.0 ∙ more xs in
          omega (arith, (added_long us bs b i a).1)
        where
          more : (zs : List Placed) → length (zs ++ x ∷ []) ≡ length zs + 1
          more [] = refl
          more (z ∷ zs) = let e = more zs in omega arith

  early : ys ≡ xs → IsWithin ss hs x
  early old = pool.within v x (subst (λ zs. slice_get zs v ≡ Some x) old at_x.stands)

  -- two positions that show the same are stored as one
  stored_same : (y : Placed) → IsWithin ts gs y → seen ts gs x ≡ seen ts gs y → x ≡ y
  stored_same y w e =
      let sequents : x.sequent ≡ y.sequent =
      added_once ss ts s x.sequent at_s pool.sequents_once x.sequent y.sequent (get_or ts y.sequent [])
      (slice_get-get_or ts x.sequent [] is_within.sequent ∙ ap (λ (p : Position). Some p.sequent) e)
      (slice_get-get_or ts y.sequent [] w.sequent) in
      let histories : x.history ≡ y.history =
      added_once hs gs h x.history at_h pool.histories_once x.history y.history (get_or gs y.history [])
      (slice_get-get_or gs x.history [] is_within.history ∙ ap (λ (p : Position). Some p.history) e)
      (slice_get-get_or gs y.history [] w.history) in
      let priorities : x.priority ≡ y.priority = ap (λ (p : Position). p.priority) e in
      let choices : x.choice ≡ y.choice = ap (λ (p : Position). p.choice) e in
      λ i. record { sequent = sequents i; history = histories i; priority = priorities i; choice = choices i }

  not_shown : ¬ (IsMember x xs) → ¬ (IsMember (seen ts gs x) (shown ss hs xs))
  not_shown new m = by_image (member-map_from (seen ts gs) (seen ts gs x) xs (subst (IsMember (seen ts gs x)) (sym shown_same) m))
    where
      by_image : Image (seen ts gs) (seen ts gs x) xs → ⊥
      by_image i =
          let p : PlaceOf i.from xs = place_of i.from xs i.member in
          new (subst (λ z. IsMember z xs) (sym (stored_same i.from (old_within p.place i.from p.stands) i.holds)) i.member)

  grown : (shown ts gs ys ≡ shown ss hs xs)
      ⊎ ((shown ts gs ys ≡ shown ss hs xs ++ seen ts gs x ∷ []) × ¬ (IsMember (seen ts gs x) (shown ss hs xs)))
  grown = by_kind at_x.grown
    where
      by_kind : (ys ≡ xs) ⊎ ((ys ≡ xs ++ x ∷ []) × ¬ (IsMember x xs))
          → (shown ts gs ys ≡ shown ss hs xs)
          ⊎ ((shown ts gs ys ≡ shown ss hs xs ++ seen ts gs x ∷ []) × ¬ (IsMember (seen ts gs x) (shown ss hs xs)))
      by_kind (inl old) = inl (ap (shown ts gs) old ∙ shown_same)
      by_kind (inr new) = inr (
        ap (shown ts gs) new.0 ∙ map_push (seen ts gs) xs x ∙ ap (λ ps. ps ++ seen ts gs x ∷ []) shown_same,
        not_shown new.1,
      )

  different : AreDifferent (shown ts gs ys)
  different = by_kind grown
    where
      by_kind : (shown ts gs ys ≡ shown ss hs xs)
          ⊎ ((shown ts gs ys ≡ shown ss hs xs ++ seen ts gs x ∷ []) × ¬ (IsMember (seen ts gs x) (shown ss hs xs)))
          → AreDifferent (shown ts gs ys)
      by_kind (inl old) = subst AreDifferent (sym old) pool.are_different
      by_kind (inr new) =
          subst AreDifferent (sym new.0) (different_more (shown ss hs xs) (seen ts gs x) pool.are_different new.1)

  pub still_pool : (cs : List Top) (ns : List ℕ) → Leads top_of ys cs ns → IsPool ts gs ys cs ns
  still_pool cs ns tops = record {
    sequents_once = added_once ss ts s x.sequent at_s pool.sequents_once;
    histories_once = added_once hs gs h x.history at_h pool.histories_once;
    within = all_within;
    few_sequents = few ss ts s x.sequent at_s pool.few_sequents (λ old. (early old).sequent);
    few_histories = few hs gs h x.history at_h pool.few_histories (λ old. (early old).history);
    are_different = different;
    tops = tops;
  }

  seen_made : seen ts gs x ≡ record { sequent = s; history = h; priority = x.priority; choice = x.choice }
  seen_made =
      let sequents = get_or_from_slice_get ts x.sequent s [] at_s.stands in
      let histories = get_or_from_slice_get gs x.history h [] at_h.stands in
      λ i. record { sequent = sequents i; history = histories i; priority = x.priority; choice = x.choice }

  seen_added : IsAdded (shown ss hs xs) (seen ts gs x) (shown ts gs ys) v
  seen_added = record {
    stands = slice_get-map (seen ts gs) ys v ∙ ap (option_map (seen ts gs)) at_x.stands;
    grown = grown;
  }

  -- the pool has the position
  pub still_added : IsAdded (shown ss hs xs) (record { sequent = s; history = h; priority = x.priority; choice = x.choice })
      (shown ts gs ys) v
  still_added = subst (λ p. IsAdded (shown ss hs xs) p (shown ts gs ys) v) seen_made seen_added

-- the same for a position that has the sequent and the history of another one, with a side more
module _ (ss : List (List ℕ)) (hs : List (List (Item ℕ))) (xs : List Placed) (k priority : ℕ)
    (node : ℕ) (side : Side) (p : Position) (ks : List Top) (ls : List ℕ)
    (pool : IsPool ss hs xs ks ls)
    (low : k < length xs)
    (at : slice_get (shown ss hs xs) k ≡ Some p)
    (new : ¬ (IsMember (beside p priority (with_side p.choice node side)) (shown ss hs xs))) where
  abbrev old : Placed
  old = get_or xs k nowhere

  abbrev more : Placed
  more = record {
    sequent = (get_or xs k nowhere).sequent;
    history = (get_or xs k nowhere).history;
    priority = priority;
    choice = with_side (choice_at xs k) node side;
  }

  old_at : slice_get xs k ≡ Some old
  old_at = slice_get-get_or xs k nowhere low

  same_position : seen ss hs old ≡ p
  same_position =
      let e : Some (seen ss hs old) ≡ Some p =
      ap (option_map (seen ss hs)) (sym old_at) ∙ sym (slice_get-map (seen ss hs) xs k) ∙ at in cc

  seen_more : seen ss hs more ≡ beside p priority (with_side p.choice node side)
  seen_more = ap (λ (q : Position). beside q priority (with_side q.choice node side)) same_position

  stands_still : {Y : Type 0} (us : List Y) (y d : Y) (i : ℕ) → i < length us → get_or us i d ≡ y → IsAdded us y us i
  stands_still us y d i inside is =
      record { stands = slice_get-get_or us i d inside ∙ ap Some is; grown = inl refl }

  at_s : IsAdded ss p.sequent ss more.sequent
  at_s = stands_still ss p.sequent [] old.sequent (pool.within k old old_at).sequent
      (ap (λ (q : Position). q.sequent) same_position)

  at_h : IsAdded hs p.history hs more.history
  at_h = stands_still hs p.history [] old.history (pool.within k old old_at).history
      (ap (λ (q : Position). q.history) same_position)

  not_there : ¬ (IsMember more xs)
  not_there m =
      new (subst (λ q. IsMember q (shown ss hs xs)) seen_more (member-map (seen ss hs) more xs m))

  at_x : IsAdded xs more (xs ++ more ∷ []) (length xs)
  at_x = record { stands = stands_last xs more; grown = inr (refl, not_there) }

  some_side : more.choice ≡ [] → ⊥
  some_side e = with_side_some (choice_at xs k) node side e

  pub chosen_pool : IsPool ss hs (xs ++ more ∷ []) ks ls
  chosen_pool =
      still_pool ss ss hs hs xs (xs ++ more ∷ []) p.sequent p.history more (length xs) ks ls pool at_s at_h at_x
      ks ls (still_leads top_of xs ks ls pool.tops more some_side)

  choices_are : with_side (choice_at xs k) node side ≡ with_side p.choice node side
  choices_are = ap (λ (q : Position). with_side q.choice node side) same_position

  pub chosen_added : IsAdded (shown ss hs xs) (beside p priority (with_side p.choice node side))
      (shown ss hs (xs ++ more ∷ [])) (length xs)
  chosen_added =
      subst (λ c. IsAdded (shown ss hs xs) (beside p priority c) (shown ss hs (xs ++ more ∷ [])) (length xs)) choices_are
      (still_added ss ss hs hs xs (xs ++ more ∷ []) p.sequent p.history more (length xs) ks ls pool at_s at_h at_x)

-- a position is shown at its place
pub shown_at : (ss : List (List ℕ)) (hs : List (List (Item ℕ))) (xs : List Placed) (v : ℕ) → v < length (shown ss hs xs)
    → (v < length xs) × (slice_get (shown ss hs xs) v ≡ Some (seen ss hs (get_or xs v nowhere)))
shown_at ss hs xs v inside =
    let low : v < length xs = omega (arith, inside, length-map xs (seen ss hs)) in
    (low, slice_get-map (seen ss hs) xs v ∙ ap (option_map (seen ss hs)) (slice_get-get_or xs v nowhere low))

-- what was stored before stands before what is added
pub added_stored : (xs ys : List Placed) (x : Placed) (v : ℕ) → IsAdded xs x ys v → IsLonger xs ys
added_stored xs ys x v added = by_kind added.grown
  where
    by_kind : (ys ≡ xs) ⊎ ((ys ≡ xs ++ x ∷ []) × ¬ (IsMember x xs)) → IsLonger xs ys
    by_kind (inl old) = subst (IsLonger xs) (sym old) (longer_self xs)
    by_kind (inr new) = record { more = x ∷ []; is = new.0 }

-- ---- sequents and histories by their places

-- a position that is stored is shown
pub shown_there : (b : Pool) (v : ℕ) (x : Placed) → slice_get b.positions v ≡ Some x
    → slice_get (positions_of b) v ≡ Some (seen b.sequents.keys b.histories.keys x)
shown_there b v x at =
    slice_get-map (seen b.sequents.keys b.histories.keys) b.positions v
    ∙ ap (option_map (seen b.sequents.keys b.histories.keys)) at

-- and one that is shown is stored
pub record StoredAt (b : Pool) (v : ℕ) (q : Position) : Type 0 where
  pub entry : Placed
  pub stands : slice_get b.positions v ≡ Some entry
  pub shows : seen b.sequents.keys b.histories.keys entry ≡ q

pub stored_at : (b : Pool) (v : ℕ) (q : Position) → slice_get (positions_of b) v ≡ Some q → StoredAt b v q
stored_at b v q at =
    let within = slice_get_within (positions_of b) v q at in
    let low = (shown_at b.sequents.keys b.histories.keys b.positions v within).0 in
    let x = get_or b.positions v nowhere in
    let stands = slice_get-get_or b.positions v nowhere low in
    let e : Some (seen b.sequents.keys b.histories.keys x) ≡ Some q = sym (shown_there b v x stands) ∙ at in
    record { entry = x; stands = stands; shows = cc }

module _ (b : Pool) (v w : ℕ) (x y : Placed) (p q : Position)
    (at_x : slice_get b.positions v ≡ Some x) (at_y : slice_get b.positions w ≡ Some y)
    (at_p : slice_get (positions_of b) v ≡ Some p) (at_q : slice_get (positions_of b) w ≡ Some q) where
  abbrev ss : List (List ℕ)
  ss = b.sequents.keys

  abbrev hs : List (List (Item ℕ))
  hs = b.histories.keys

  shows : (u : ℕ) (z : Placed) (r : Position) → slice_get b.positions u ≡ Some z
      → slice_get (positions_of b) u ≡ Some r
      → seen ss hs z ≡ r
  shows u z r at_z at_r =
      let e : Some (seen ss hs z) ≡ Some r = sym (shown_there b u z at_z) ∙ at_r in cc

  -- positions with one sequent and one history have them at the same places
  pub same_site : KeepsPool b → p.sequent ≡ q.sequent → p.history ≡ q.history → site_of x ≡ site_of y
  same_site pool s h =
      let in_x = pool.within v x at_x in
      let in_y = pool.within w y at_y in
      let here = shows v x p at_x at_p in
      let there = shows w y q at_y at_q in
      let sequents = pool.sequents_once x.sequent y.sequent (get_or ss y.sequent [])
      (slice_get-get_or ss x.sequent [] in_x.sequent
      ∙ ap Some (ap (λ (r : Position). r.sequent) here ∙ s ∙ ap (λ (r : Position). r.sequent) (sym there)))
      (slice_get-get_or ss y.sequent [] in_y.sequent) in
      let histories = pool.histories_once x.history y.history (get_or hs y.history [])
      (slice_get-get_or hs x.history [] in_x.history
      ∙ ap Some (ap (λ (r : Position). r.history) here ∙ h ∙ ap (λ (r : Position). r.history) (sym there)))
      (slice_get-get_or hs y.history [] in_y.history) in
      λ i. record { sequent = sequents i; history = histories i }

  -- and those that have them at the same places have one
  pub site_shown : site_of x ≡ site_of y → (p.sequent ≡ q.sequent) × (p.history ≡ q.history)
  site_shown same =
      let here = shows v x p at_x at_p in
      let there = shows w y q at_y at_q in (
        ap (λ (r : Position). r.sequent) (sym here) ∙ ap (λ (s : Site). get_or ss s.sequent []) same
            ∙ ap (λ (r : Position). r.sequent) there,
        ap (λ (r : Position). r.history) (sym here) ∙ ap (λ (s : Site). get_or hs s.history []) same
            ∙ ap (λ (r : Position). r.history) there,
      )
