-- Where sides began to be chosen.
--
--   rooted_start    == at the beginning there are no choices
--   fresh_root      == with a sequent and a history that aren't in the table no side was chosen
--   rooted_kept     == where no position with a choice came, the table says what it said
--   rooted_ended    == so it does behind an exploration that chose no side
--   rooted_explored == behind an exploration from the position with the next number it has the sequent and the history
--                      of this position too
--   root_twin       == a root has the sequent and the history of the position that is looked for, and no choice
use Rattle.std.proofs.Common.{ℕ, ◌≡◌, ◌<◌, ◌≤◌, ◌⊎◌, inl, inr, List, [], ◌∷◌, ◌++◌, length, length-append, slice_get, get_or, Some, refl, sym, ap, ◌∙◌, subst, arith}
use Rattle.std.proofs.lemmas.Bool.{cases_lt}
use Rattle.std.proofs.lemmas.List.{length-map, get_or_append_left}
use Rattle.std.proofs.lemmas.Option.{slice_get_within, slice_get-get_or, get_or_from_slice_get}
use Rattle.ml_lists.specs.Member.{IsMember}
use Rattle.ml_lists.proofs.Added.{last_or}
use Rattle.ml_lists.proofs.Member.{member-append_left, member-append_right, member_of_get}
use Rattle.ml_graph.specs.Graph.{Graph}
use Rattle.ml_product.specs.Position.{Position, start_of}
use Rattle.ml_product.specs.declared.pool.Pool.{Pool}
use Rattle.ml_product.specs.declared.recorded.Recorded.{Recorded}
use Rattle.ml_product.specs.declared.stored.Site.{Site}
use Rattle.ml_product.specs.Placed.{Placed, nowhere}
use Rattle.ml_product.specs.private.Links.{site_of}
use Rattle.ml_product.specs.private.Pools.{positions_of, KeepsPool, IsLonger}
use Rattle.ml_product.specs.private.Shared.{seen}
use Rattle.ml_product.specs.private.Exploring.{at_place, IsBelow, HasNoneBelow, AddsUnchosen, IsWaiting, AreWaiting, IsExplored, IsRoot, AreRooted}
use Rattle.ml_product.proofs.Below.{longer_back}
use Rattle.ml_product.proofs.Interning.{stored_at, shown_there, same_site, site_shown}
use Rattle.ml_product.proofs.OnePlace.{PlaceOf, place_of, same_place}
use Rattle.ml_product.proofs.Placing.{end_get}
use Rattle.ml_product.proofs.Vertices.{longer_get, longer_place}

-- at the beginning there are no choices
pub rooted_start : (g : Graph) (b : Pool) → AreWaiting g b [] [] → AreRooted b.positions [] [] []
rooted_start g b waiting = record {
  even = refl;
  roots = λ i s at. absurd (omega (arith, slice_get_within {A = Site} [] i s at));
  all = λ v x at some. absurd (by_kind v x some (shown_there b v x at));
}
  where
    by_kind : (v : ℕ) (x : Placed) → (x.choice ≡ [] → ⊥)
        → slice_get (positions_of b) v ≡ Some (seen b.sequents.keys b.histories.keys x) → ⊥
    by_kind v x some there =
        none (waiting v (slice_get_within (positions_of b) v (seen b.sequents.keys b.histories.keys x) there) refl)
      where
        none : ⊥ ⊎ ((at_place g (positions_of b) v).choice ≡ []) → ⊥
        none (inl never) = never
        none (inr empty) =
            let place = get_or_from_slice_get (positions_of b) v (seen b.sequents.keys b.histories.keys x) (start_of g) there in
            some (ap (λ (p : Position). p.choice) (sym place) ∙ empty)

some_or_none : {X : Type 0} (c : List X) → (c ≡ []) ⊎ (c ≡ [] → ⊥)
some_or_none [] = inl refl
some_or_none (x ∷ c) = inr (λ e. cc)

module _ (g : Graph) (b : Pool) (v : ℕ) (low : v < length (positions_of b)) where
  abbrev here : Position
  here = at_place g (positions_of b) v

  stands : slice_get (positions_of b) v ≡ Some (at_place g (positions_of b) v)
  stands = slice_get-get_or (positions_of b) v (start_of g) low

  kept_at : slice_get b.positions v ≡ Some (get_or b.positions v nowhere)
  kept_at =
      let s = stored_at b v here stands in
      slice_get-get_or b.positions v nowhere (slice_get_within b.positions v s.entry s.stands)

  -- what is below the position has its numbers
  below_site : KeepsPool b → (w : ℕ) (x : Placed) (q : Position) → slice_get b.positions w ≡ Some x
      → slice_get (positions_of b) w ≡ Some q
      → IsBelow (at_place g (positions_of b) v) q
      → site_of x ≡ site_of (get_or b.positions v nowhere)
  below_site pool w x q at_x at_q is =
      same_site b w v x (get_or b.positions v nowhere) q here at_x kept_at at_q stands pool is.sequent is.history

  -- with a sequent and a history that aren't in the table no side was chosen
  pub fresh_root : (rs : List Recorded) (ks : List Site) (ns : List ℕ) → KeepsPool b
      → AreRooted b.positions rs ks ns
      → (at_place g (positions_of b) v).choice ≡ []
      → ¬ (IsMember (site_of (get_or b.positions v nowhere)) ks)
      → HasNoneBelow (positions_of b) (at_place g (positions_of b) v)
  fresh_root rs ks ns pool rooted none new q m below = from (place_of q (positions_of b) m)
    where
      from : PlaceOf q (positions_of b) → q.choice ≡ here.choice
      from at = by_choice (some_or_none q.choice)
        where
          by_choice : (q.choice ≡ []) ⊎ (q.choice ≡ [] → ⊥) → q.choice ≡ here.choice
          by_choice (inl empty) = empty ∙ sym none
          by_choice (inr some) =
              let x = stored_at b at.place q at.stands in
              let m = rooted.all at.place x.entry x.stands
              (λ e. some (ap (λ (p : Position). p.choice) (sym x.shows) ∙ e)) in
              absurd (new (subst (λ s. IsMember s ks)
              (below_site pool at.place x.entry q x.stands at.stands below) m))

  -- a root has the sequent and the history of the position that is looked for, and no choice
  pub root_twin : (rs : List Recorded) (w : ℕ) → IsRoot b.positions rs (site_of (get_or b.positions v nowhere)) w
      → ((at_place g (positions_of b) w).sequent ≡ (at_place g (positions_of b) v).sequent)
      × ((at_place g (positions_of b) w).history ≡ (at_place g (positions_of b) v).history)
      × ((at_place g (positions_of b) w).choice ≡ [])
  root_twin rs w root =
      let f = root.is_top in
      let there = shown_there b w f.entry f.stands in
      let place = get_or_from_slice_get (positions_of b) w (seen b.sequents.keys b.histories.keys f.entry) (start_of g) there in
      let same = site_shown b w v f.entry (get_or b.positions v nowhere) (seen b.sequents.keys b.histories.keys f.entry) here
      f.stands kept_at there stands f.key_is in (
        ap (λ (p : Position). p.sequent) place ∙ same.0,
        ap (λ (p : Position). p.history) place ∙ same.1,
        ap (λ (p : Position). p.choice) place ∙ f.unchosen,
      )

-- ---- while positions come

module _ (xs ys : List Placed) (rs ts : List Recorded) (ks : List Site) (ns : List ℕ) (rooted : AreRooted xs rs ks ns)
    (longer : IsLonger xs ys)
    (kept : (w : ℕ) → (IsWaiting rs w → ⊥) → IsWaiting ts w → ⊥) where
  root_later : (s : Site) (w : ℕ) → IsRoot xs rs s w → IsRoot ys ts s w
  root_later s w root =
      let f = root.is_top in record {
        is_top = record {
          entry = f.entry;
          stands = longer_get xs ys longer w f.entry f.stands;
          unchosen = f.unchosen;
          key_is = f.key_is;
        };
        found = kept w root.found;
      }

  all_later : (ls : List Site)
      → ((s : Site) → IsMember s ks → IsMember s ls)
      → ((v : ℕ) (x : Placed) → length xs ≤ v → slice_get ys v ≡ Some x → (x.choice ≡ [] → ⊥) → IsMember (site_of x) ls)
      → (v : ℕ) (x : Placed) → slice_get ys v ≡ Some x → (x.choice ≡ [] → ⊥) → IsMember (site_of x) ls
  all_later ls more new v x at some = by_place (cases_lt v (length xs))
    where
      by_place : (v < length xs) ⊎ (length xs ≤ v) → IsMember (site_of x) ls
      by_place (inl low) = more (site_of x) (rooted.all v x (longer_back xs ys v x longer low at) some)
      by_place (inr high) = new v x high at some

  -- where no position with a choice came, the table says what it said
  pub rooted_kept : ((v : ℕ) (x : Placed) → length xs ≤ v → slice_get ys v ≡ Some x → x.choice ≡ [])
      → AreRooted ys ts ks ns
  rooted_kept none = record {
    even = rooted.even;
    roots = λ i s at. root_later s (get_or ns i 0) (rooted.roots i s at);
    all = all_later ks (λ s m. m) (λ v x high at some. absurd (some (none v x high at)));
  }

  -- where those that came have the numbers of one position, it has these too
  pub rooted_more : (s : Site) (v : ℕ) → IsRoot ys ts s v
      → ((w : ℕ) (x : Placed) → length xs ≤ w → slice_get ys w ≡ Some x → (x.choice ≡ [] → ⊥) → site_of x ≡ s)
      → AreRooted ys ts (ks ++ s ∷ []) (ns ++ v ∷ [])
  rooted_more s v root new = record {
    even = let e = rooted.even in omega (arith, length-append ks (s ∷ []), length-append ns (v ∷ []));
    roots = λ i k at. by_key i k (last_or ks s k i at);
    all = all_later (ks ++ s ∷ []) (λ k m. member-append_left k ks (s ∷ []) m)
        (λ w x high at some. member-append_right (site_of x) ks (s ∷ []) (inl (new w x high at some)));
  }
    where
      by_key : (i : ℕ) (k : Site) → (slice_get ks i ≡ Some k) ⊎ ((i ≡ length ks) × (k ≡ s))
          → IsRoot ys ts k (get_or (ns ++ v ∷ []) i 0)
      by_key i k (inl there) =
          let low = slice_get_within ks i k there in
          let e = rooted.even in
          subst (IsRoot ys ts k) (sym (get_or_append_left ns (v ∷ []) 0 i (omega arith)))
          (root_later k (get_or ns i 0) (rooted.roots i k there))
      by_key i k (inr (here, same)) =
          let place : length ns ≡ i = sym rooted.even ∙ sym here in
          let number : v ≡ get_or (ns ++ v ∷ []) i 0 =
          sym (end_get ns v 0) ∙ ap (λ j. get_or (ns ++ v ∷ []) j 0) place in
          subst (IsRoot ys ts k) number (subst (λ (l : Site). IsRoot ys ts l v) (sym same) root)

-- where an exploration chose no side, it says what it said
pub rooted_ended : (g : Graph) (limit : ℕ) (b d : Pool) (rs ts : List Recorded) (ks : List Site) (ns : List ℕ) (v : ℕ)
    → AreRooted b.positions rs ks ns
    → IsExplored g limit b rs v d ts
    → AddsUnchosen g (positions_of b) d
    → AreRooted d.positions ts ks ns
rooted_ended g limit b d rs ts ks ns v rooted is unchosen =
    rooted_kept b.positions d.positions rs ts ks ns rooted is.stored is.kept none
  where
    none : (w : ℕ) (x : Placed) → length b.positions ≤ w → slice_get d.positions w ≡ Some x → x.choice ≡ []
    none w x high at =
        let q = seen d.sequents.keys d.histories.keys x in
        let there = shown_there d w x at in
        let long = length-map b.positions (seen b.sequents.keys b.histories.keys) in
        ap (λ (p : Position). p.choice) (sym (get_or_from_slice_get (positions_of d) w q (start_of g) there))
        ∙ unchosen w (omega arith) (slice_get_within (positions_of d) w q there)

-- behind an exploration from the position with the next number it has the numbers of this position too
pub rooted_explored : (g : Graph) (limit : ℕ) (b d : Pool) (rs ts : List Recorded) (ks : List Site) (ns : List ℕ) (v : ℕ)
    → AreRooted b.positions rs ks ns
    → v < length (positions_of b)
    → (at_place g (positions_of b) v).choice ≡ []
    → IsExplored g limit b rs v d ts
    → AreRooted d.positions ts (ks ++ site_of (get_or b.positions v nowhere) ∷ []) (ns ++ v ∷ [])
rooted_explored g limit b d rs ts ks ns v rooted low none is =
    rooted_more b.positions d.positions rs ts ks ns rooted is.stored is.kept here v root new
  where
    here : Site
    here = site_of (get_or b.positions v nowhere)

    pool : KeepsPool d
    pool = is.underway.explores.is_pool

    later : slice_get d.positions v ≡ Some (get_or b.positions v nowhere)
    later = longer_get b.positions d.positions is.stored v (get_or b.positions v nowhere) (kept_at g b v low)

    empty : (get_or b.positions v nowhere).choice ≡ []
    empty =
        let x = get_or b.positions v nowhere in
        let place = get_or_from_slice_get (positions_of b) v (seen b.sequents.keys b.histories.keys x) (start_of g)
        (shown_there b v x (kept_at g b v low)) in
        ap (λ (p : Position). p.choice) (sym place) ∙ none

    root : IsRoot d.positions ts here v
    root = record {
      is_top = record { entry = get_or b.positions v nowhere; stands = later; unchosen = empty; key_is = refl };
      found = is.done;
    }

    new : (w : ℕ) (x : Placed) → length b.positions ≤ w → slice_get d.positions w ≡ Some x → (x.choice ≡ [] → ⊥)
        → site_of x ≡ here
    new w x high at some = by_kind (is.adds q (member_of_get (positions_of d) w q there))
      where
        q : Position
        q = seen d.sequents.keys d.histories.keys x

        there : slice_get (positions_of d) w ≡ Some q
        there = shown_there d w x at

        by_kind : IsMember q (positions_of b) ⊎ (q.choice ≡ []) ⊎ IsBelow (at_place g (positions_of b) v) q
            → site_of x ≡ here
        by_kind (inl old) =
            let p : PlaceOf q (positions_of b) = place_of q (positions_of b) old in
            let one : p.place ≡ w = same_place (positions_of d) pool.are_different p.place w q
            (longer_get (positions_of b) (positions_of d) is.longer p.place q p.stands) there in
            let s = stored_at b p.place q p.stands in
            let less = slice_get_within b.positions p.place s.entry s.stands in
            absurd (omega arith)
        by_kind (inr (inl none)) = absurd (some none)
        by_kind (inr (inr below)) =
            let d_low = slice_get_within (positions_of d) v (seen d.sequents.keys d.histories.keys
            (get_or b.positions v nowhere)) (shown_there d v (get_or b.positions v nowhere) later) in
            below_site g d v d_low pool w x q at there
            (subst (λ p. IsBelow p q) (sym (longer_place g (positions_of b) (positions_of d) is.longer v low)) below)
            ∙ ap site_of (get_or_from_slice_get d.positions v (get_or b.positions v nowhere) nowhere later)
