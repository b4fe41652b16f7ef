-- Places that are found one after the other.
--
--   grown_one, full_more     == a place was added, or there was no room
--   added_or_full            == a place is added, or there is no room
--   grown_none, grown_on, grown_both == so were others
--   overflows_first, overflows_on, overflows_later == there is no room for some of them
--   grown_or_full            == some are added, or there is no room for them
--   followed, passed_limit   == those behind a place were added, or there are too many
--   begun_none, begun_more, begun_full == where walks begin
--   found_first, found_more, found_full == places are followed, one after the other
--   all_found                == all places are found
--   place_read, begin_is     == what a program reads
use Rattle.std.proofs.Common.{ℕ, ◌≡◌, ◌+◌, ◌<◌, ◌≤◌, ◌⊎◌, ◌↔◌, inl, inr, arith, true, false, true≢false, List, [], ◌∷◌, ◌++◌, length, get_or, Some, slice_get, refl, sym, ap, ◌∙◌, subst, length-append}
use Rattle.std.specs.List.{list_any}
use Rattle.std.proofs.lemmas.Bool.{cases_Bool, cases_eq, cases_lt}
use Rattle.std.proofs.lemmas.List.{get_or_default}
use Rattle.std.proofs.lemmas.Option.{slice_get-get_or}
use Rattle.ml_lists.specs.Added.{HasOnePlace, IsAdded}
use Rattle.ml_lists.specs.Member.{IsMember}
use Rattle.ml_lists.proofs.Added.{added_keeps, added_long, added_once}
use Rattle.ml_lists.proofs.Member.{list_any-member, member-append, member-list_any, member-place, member_of_get}
use Rattle.ml_graph.specs.Graph.{Graph}
use Rattle.ml_labelled.specs.declared.labelled.Literal.{Literal}
use Rattle.ml_word_automaton.specs.Letters.{Automaton}
use Rattle.ml_translate.specs.Places.{HasMorePlaces, IsPlace, Place, begin, begins, further, goes_on}
use Rattle.ml_translate.proofs.PlaceEquality.{place_eq, place_eq-refl, place_eq-same}
use Rattle.ml_translate.specs.private.Finding.{ArePlaces, Follows, IsBegun, IsFollowed, IsFound, IsFull, IsGrown, IsPassed, Overflows, place_at}

-- ---- one place more

pub grown_one : (xs ys : List Place) (s : Place) (i : ℕ) → IsAdded xs s ys i → IsGrown (s ∷ []) xs ys
grown_one xs ys s i added = record {
  kept = λ k t at. added_keeps xs ys s i added k t at;
  once = added_once xs ys s i added;
  from = λ t m. from t m added.grown;
  there = λ t m. there t m;
  longer = (added_long xs ys s i added).0;
}
  where
    from : (t : Place) → IsMember t ys → (ys ≡ xs) ⊎ ((ys ≡ xs ++ s ∷ []) × ¬ (IsMember s xs)) → IsMember t xs ⊎ IsMember t (s ∷ [])
    from t m (inl old) = inl (subst (IsMember t) old m)
    from t m (inr new) = member-append t xs (s ∷ []) (subst (IsMember t) new.0 m)

    there : (t : Place) → IsMember t (s ∷ []) → IsMember t ys
    there t (inl same) = subst (λ (x : Place). IsMember x ys) (sym same) (member_of_get ys i s added.stands)
    there t (inr none) = absurd none

-- behind the list with this place there is one more than is allowed
pub full_added : (limit : ℕ) (xs ys : List Place) (s : Place) (i : ℕ)
    → IsAdded xs s ys i
    → length xs ≤ limit
    → limit < length ys
    → IsFull limit xs s
full_added limit xs ys s i added few many = by added.grown
  where
    by : (ys ≡ xs) ⊎ ((ys ≡ xs ++ s ∷ []) × ¬ (IsMember s xs)) → IsFull limit xs s
    by (inl old) = let e = ap length old in absurd (omega arith)
    by (inr new) =
        let e : length ys ≡ length xs + 1 = ap length new.0 ∙ length-append xs (s ∷ []) in
        record { full = omega arith; is_new = new.1 }

-- a list with a place that is new, behind it
last_stands : (xs : List Place) (s : Place) → slice_get (xs ++ s ∷ []) (length xs) ≡ Some s
last_stands [] s = refl
last_stands (x ∷ xs) s = last_stands xs s

added_last : (xs : List Place) (s : Place) → ¬ (IsMember s xs) → IsAdded xs s (xs ++ s ∷ []) (length xs)
added_last xs s new = record { stands = last_stands xs s; grown = inr (refl, new) }

more_once : (xs : List Place) (s : Place) → ¬ (IsMember s xs) → HasOnePlace xs → HasOnePlace (xs ++ s ∷ [])
more_once xs s new once = added_once xs (xs ++ s ∷ []) s (length xs) (added_last xs s new) once

full_overflows : (limit : ℕ) (ts xs : List Place) (s : Place) → IsFull limit xs s → IsMember s ts → Overflows limit ts xs
full_overflows limit ts xs s full m = record {
  more = xs ++ s ∷ [];
  once = more_once xs s full.is_new;
  from = λ t k. from t (member-append t xs (s ∷ []) k);
  is_longer = let e = full.full in omega (arith, length-append xs (s ∷ []));
}
  where
    from : (t : Place) → IsMember t xs ⊎ IsMember t (s ∷ []) → IsMember t xs ⊎ IsMember t ts
    from t (inl k) = inl k
    from t (inr (inl same)) = inr (subst (λ (x : Place). IsMember x ts) (sym same) m)
    from t (inr (inr none)) = absurd none

pub overflows_one : (limit : ℕ) (xs : List Place) (s : Place) → IsFull limit xs s → Overflows limit (s ∷ []) xs
overflows_one limit xs s full = full_overflows limit (s ∷ []) xs s full (inl refl)

pub overflows_first : (limit : ℕ) (xs : List Place) (s t : Place) → IsFull limit xs s → Overflows limit (s ∷ t ∷ []) xs
overflows_first limit xs s t full = full_overflows limit (s ∷ t ∷ []) xs s full (inl refl)

-- where one was added, and there is no room for those behind it
overflows_on : (limit : ℕ) (xs ys ts : List Place) (s : Place)
    → IsGrown (s ∷ []) xs ys
    → Overflows limit ts ys
    → Overflows limit (s ∷ ts) xs
overflows_on limit xs ys ts s grown o = record {
  more = o.more;
  once = λ once. o.once (grown.once once);
  from = λ u m. later u (o.from u m);
  is_longer = o.is_longer;
}
  where
    first : (u : Place) → IsMember u xs ⊎ IsMember u (s ∷ []) → IsMember u xs ⊎ IsMember u (s ∷ ts)
    first u (inl k) = inl k
    first u (inr (inl same)) = inr (inl same)
    first u (inr (inr none)) = absurd none

    later : (u : Place) → IsMember u ys ⊎ IsMember u ts → IsMember u xs ⊎ IsMember u (s ∷ ts)
    later u (inl k) = first u (grown.from u k)
    later u (inr k) = inr (inr k)

pub overflows_later : (limit : ℕ) (xs ys : List Place) (s t : Place)
    → IsGrown (s ∷ []) xs ys
    → IsFull limit ys t
    → Overflows limit (s ∷ t ∷ []) xs
overflows_later limit xs ys s t grown full = overflows_on limit xs ys (t ∷ []) s grown (overflows_one limit ys t full)

pub grown_none : (xs : List Place) → IsGrown [] xs xs
grown_none xs = record {
  kept = λ k t at. at;
  once = λ once. once;
  from = λ t m. inl m;
  there = λ t m. absurd m;
  longer = omega arith;
}

grown_on : (xs ys zs ts : List Place) (s : Place)
    → IsGrown (s ∷ []) xs ys
    → IsGrown ts ys zs
    → IsGrown (s ∷ ts) xs zs
grown_on xs ys zs ts s first second = record {
  kept = λ k u at. second.kept k u (first.kept k u at);
  once = λ once. second.once (first.once once);
  from = λ u m. from u (second.from u m);
  there = λ u m. there u m;
  longer = let one = first.longer in let two = second.longer in omega arith;
}
  where
    earlier : (u : Place) → IsMember u xs ⊎ IsMember u (s ∷ []) → IsMember u xs ⊎ IsMember u (s ∷ ts)
    earlier u (inl k) = inl k
    earlier u (inr (inl same)) = inr (inl same)
    earlier u (inr (inr none)) = absurd none

    from : (u : Place) → IsMember u ys ⊎ IsMember u ts → IsMember u xs ⊎ IsMember u (s ∷ ts)
    from u (inl k) = earlier u (first.from u k)
    from u (inr k) = inr (inr k)

    still : (u : Place) → IsMember u ys → IsMember u zs
    still u m =
        let at = member-place u ys m in
        member_of_get zs at.place u (second.kept at.place u (slice_get-get_or ys at.place u at.below ∙ ap Some (at.holds u)))

    there : (u : Place) → IsMember u (s ∷ ts) → IsMember u zs
    there u (inl same) = still u (first.there u (inl same))
    there u (inr m) = second.there u m

pub grown_both : (xs ys zs : List Place) (s t : Place)
    → IsGrown (s ∷ []) xs ys
    → IsGrown (t ∷ []) ys zs
    → IsGrown (s ∷ t ∷ []) xs zs
grown_both xs ys zs s t first second = grown_on xs ys zs (t ∷ []) s first second

-- ---- added, or too many

-- the places with some added to them, which are no more than the limit
pub record Grown (limit : ℕ) (ts xs : List Place) : Type 0 where
  pub places : List Place
  pub is_grown : IsGrown ts xs places
  pub few : length places ≤ limit

pub added_or_full : (limit : ℕ) (xs : List Place) (s : Place)
    → length xs ≤ limit
    → Grown limit (s ∷ []) xs ⊎ IsFull limit xs s
added_or_full limit xs s few = by_test (cases_Bool (list_any (place_eq s) xs)) (cases_lt (length xs) limit)
  where
    by_test : (list_any (place_eq s) xs ≡ true) ⊎ (list_any (place_eq s) xs ≡ false)
        → (length xs < limit) ⊎ (limit ≤ length xs)
        → Grown limit (s ∷ []) xs ⊎ IsFull limit xs s
    by_test (inl there) room =
        let p = list_any-member (place_eq s) xs there in
        let m = subst (λ (x : Place). IsMember x xs) (sym (place_eq-same s p.item p.passes)) p.member in
        let at = member-place s xs m in
        let stands = slice_get-get_or xs at.place s at.below ∙ ap Some (at.holds s) in
        inl (record {
          places = xs;
          is_grown = grown_one xs xs s at.place (record { stands = stands; grown = inl refl });
          few = few;
        })
    by_test (inr new) (inl room) =
        let is_new : ¬ (IsMember s xs) =
        λ m. true≢false (sym (member-list_any (place_eq s) s xs m (place_eq-refl s)) ∙ new) in
        inl (record {
          places = xs ++ s ∷ [];
          is_grown = grown_one xs (xs ++ s ∷ []) s (length xs) (added_last xs s is_new);
          few = omega (arith, room, length-append xs (s ∷ []));
        })
    by_test (inr new) (inr full) =
        inr (record {
          full = omega (arith, few, full);
          is_new = λ m. true≢false (sym (member-list_any (place_eq s) s xs m (place_eq-refl s)) ∙ new);
        })

pub grown_or_full : (limit : ℕ) (ts xs : List Place)
    → length xs ≤ limit
    → Grown limit ts xs ⊎ Overflows limit ts xs
grown_or_full limit [] xs few = inl (record { places = xs; is_grown = grown_none xs; few = few })
grown_or_full limit (s ∷ ts) xs few = by_first (added_or_full limit xs s few) (grown_or_full limit ts)
  where
    by_first : Grown limit (s ∷ []) xs ⊎ IsFull limit xs s
        → ((ys : List Place) → length ys ≤ limit → Grown limit ts ys ⊎ Overflows limit ts ys)
        → Grown limit (s ∷ ts) xs ⊎ Overflows limit (s ∷ ts) xs
    by_first (inr full) rest = inr (full_overflows limit (s ∷ ts) xs s full (inl refl))
    by_first (inl first) rest = by_rest (rest first.places first.few)
      where
        by_rest : Grown limit ts first.places ⊎ Overflows limit ts first.places
            → Grown limit (s ∷ ts) xs ⊎ Overflows limit (s ∷ ts) xs
        by_rest (inl second) = inl (record {
          places = second.places;
          is_grown = grown_on xs first.places second.places ts s first.is_grown second.is_grown;
          few = second.few;
        })
        by_rest (inr o) = inr (overflows_on limit xs first.places ts s first.is_grown o)

-- ---- the places behind one

module _ (g : Graph) (props : List (List ℕ)) (xs : List Place) (at : ℕ) (ts : List Place)
    (behind : (t : Place) → IsMember t ts ↔ Follows g props (place_at xs at) t) where
  pub followed : (ys : List Place) → IsGrown ts xs ys → IsFollowed g props xs at ys
  followed ys grown = record {
    kept = grown.kept;
    once = grown.once;
    from = λ t m. by t (grown.from t m);
    there = λ t f. grown.there t ((behind t).1 f);
    longer = grown.longer;
  }
    where
      by : (t : Place) → IsMember t xs ⊎ IsMember t ts → IsMember t xs ⊎ Follows g props (place_at xs at) t
      by t (inl k) = inl k
      by t (inr k) = inr ((behind t).0 k)

  pub passed_limit : (limit : ℕ) → Overflows limit ts xs → IsPassed g props xs at limit
  passed_limit limit o = record {
    more = o.more;
    once = o.once;
    from = λ t m. by t (o.from t m);
    is_longer = o.is_longer;
  }
    where
      by : (t : Place) → IsMember t xs ⊎ IsMember t ts → IsMember t xs ⊎ Follows g props (place_at xs at) t
      by t (inl k) = inl k
      by t (inr k) = inr ((behind t).0 k)

-- ---- where walks begin

still_there : (ts xs ys : List Place) → IsGrown ts xs ys → (t : Place) → IsMember t xs → IsMember t ys
still_there ts xs ys grown t m =
    let at = member-place t xs m in
    member_of_get ys at.place t (grown.kept at.place t (slice_get-get_or xs at.place t at.below ∙ ap Some (at.holds t)))

module _ (a : Automaton) (props : List (List ℕ)) (limit : ℕ) where
  pub begun_none : IsBegun a props 0 limit []
  begun_none = record {
    once = λ i j s at_i at_j. absurd (cc);
    are_places = λ s m. absurd m;
    begun = λ p low. absurd (omega arith);
    few = omega arith;
  }

  pub begun_more : (n : ℕ) (xs ys : List Place)
      → n < length a.states
      → IsBegun a props n limit xs
      → IsGrown (begin a n ∷ []) xs ys
      → length ys ≤ limit
      → IsBegun a props (n + 1) limit ys
  begun_more n xs ys low b grown few = record {
    once = grown.once b.once;
    are_places = λ s m. place s (grown.from s m);
    begun = λ p below. begun p below (cases_eq p n);
    few = few;
  }
    where
      place : (s : Place) → IsMember s xs ⊎ IsMember s (begin a n ∷ []) → IsPlace a props s
      place s (inl m) = b.are_places s m
      place s (inr (inl same)) = subst (IsPlace a props) (sym same) (begins n low)
      place s (inr (inr none)) = absurd none

      begun : (p : ℕ) → p < n + 1 → (p ≡ n) ⊎ (p ≡ n → ⊥) → IsMember (begin a p) ys
      begun p below (inl same) = grown.there (begin a p) (inl (ap (begin a) same))
      begun p below (inr other) = still_there (begin a n ∷ []) xs ys grown (begin a p) (b.begun p (omega arith))

  pub begun_full : (n : ℕ) (xs : List Place)
      → n < length a.states
      → IsBegun a props n limit xs
      → IsFull limit xs (begin a n)
      → HasMorePlaces a props limit
  begun_full n xs low b full = record {
    places = xs ++ begin a n ∷ [];
    once = more_once xs (begin a n) full.is_new b.once;
    are_places = λ s m. place s (member-append s xs (begin a n ∷ []) m);
    is_longer = let e = full.full in omega (arith, length-append xs (begin a n ∷ []));
  }
    where
      place : (s : Place) → IsMember s xs ⊎ IsMember s (begin a n ∷ []) → IsPlace a props s
      place s (inl m) = b.are_places s m
      place s (inr (inl same)) = subst (IsPlace a props) (sym same) (begins n low)
      place s (inr (inr none)) = absurd none

  -- ---- all places

  pub found_first : (xs : List Place) → IsBegun a props (length a.states) limit xs → IsFound a props 0 limit xs
  found_first xs b = record { begun = b; closed = λ k s t low. absurd (omega arith); short = omega arith }

  -- what follows a place is one
  follows_place : (s t : Place) → IsPlace a props s → Follows a.graph props s t → IsPlace a props t
  follows_place s t is f =
      let state = f.same_state in
      let same : t ≡ further s t.node t.cube = λ i. record { state = state i; node = t.node; cube = t.cube } in
      subst (IsPlace a props) (sym same) (goes_on s t.node t.cube is f.goes_on)

  entry : (xs : List Place) (k : ℕ) → k < length xs → slice_get xs k ≡ Some (place_at xs k)
  entry xs k low = slice_get-get_or xs k (record { state = 0; node = 0; cube = [] }) low

  pub entry_place : (done k : ℕ) (xs : List Place)
      → k < length xs
      → IsFound a props done limit xs
      → IsPlace a props (place_at xs k)
  entry_place done k xs low f = (f.begun).are_places (place_at xs k) (member_of_get xs k (place_at xs k) (entry xs k low))

  pub found_more : (done : ℕ) (xs ys : List Place)
      → done < length xs
      → IsFound a props done limit xs
      → IsFollowed a.graph props xs done ys
      → length ys ≤ limit
      → IsFound a props (done + 1) limit ys
  found_more done xs ys low f next few = record {
    begun = record {
      once = next.once (f.begun).once;
      are_places = λ s m. place s (next.from s m);
      begun = λ p below. still (begin a p) ((f.begun).begun p below);
      few = few;
    };
    closed = λ k s t below at follows. closed k s t below at follows (cases_eq k done);
    short = let longer = next.longer in omega arith;
  }
    where
      still : (s : Place) → IsMember s xs → IsMember s ys
      still s m =
          let at = member-place s xs m in
          member_of_get ys at.place s (next.kept at.place s (slice_get-get_or xs at.place s at.below ∙ ap Some (at.holds s)))

      place : (s : Place) → IsMember s xs ⊎ Follows a.graph props (place_at xs done) s → IsPlace a props s
      place s (inl m) = (f.begun).are_places s m
      place s (inr follows) = follows_place (place_at xs done) s (entry_place done done xs low f) follows

      same_entry : (k : ℕ) (s : Place) → k < length xs → slice_get ys k ≡ Some s → s ≡ place_at xs k
      same_entry k s within at =
          let kept = next.kept k (place_at xs k) (entry xs k within) in
          let e : Some s ≡ Some (place_at xs k) = sym at ∙ kept in cc

      closed : (k : ℕ) (s t : Place) → k < done + 1 → slice_get ys k ≡ Some s → Follows a.graph props s t
          → (k ≡ done) ⊎ (k ≡ done → ⊥) → IsMember t ys
      closed k s t below at follows (inl same) =
          let here = same_entry k s (omega arith) at in
          next.there t (subst (λ (x : Place). Follows a.graph props x t) (here ∙ ap (place_at xs) same) follows)
      closed k s t below at follows (inr other) =
          let short = f.short in
          let here = same_entry k s (omega arith) at in
          still t (f.closed k (place_at xs k) t (omega arith) (entry xs k (omega arith))
          (subst (λ (x : Place). Follows a.graph props x t) here follows))

  pub found_full : (done : ℕ) (xs : List Place)
      → done < length xs
      → IsFound a props done limit xs
      → IsPassed a.graph props xs done limit
      → HasMorePlaces a props limit
  found_full done xs low f p = record {
    places = p.more;
    once = p.once (f.begun).once;
    are_places = λ s m. place s (p.from s m);
    is_longer = p.is_longer;
  }
    where
      place : (s : Place) → IsMember s xs ⊎ Follows a.graph props (place_at xs done) s → IsPlace a props s
      place s (inl m) = (f.begun).are_places s m
      place s (inr follows) = follows_place (place_at xs done) s (entry_place done done xs low f) follows

  pub all_found : (done : ℕ) (xs : List Place) → length xs ≤ done → IsFound a props done limit xs → ArePlaces a props xs
  all_found done xs past f = record { once = (f.begun).once; are = λ s. ((λ m. (f.begun).are_places s m), (λ is. there s is)) }
    where
      there : (s : Place) → IsPlace a props s → IsMember s xs
      there _ (begins p low) = (f.begun).begun p low
      there _ (goes_on s n c is on) =
          let m = there s is in
          let at = member-place s xs m in
          let below = at.below in
          f.closed at.place s (further s n c) (omega arith)
          (slice_get-get_or xs at.place s at.below ∙ ap Some (at.holds s))
          (record { same_state = refl; goes_on = on })

-- ---- what a program reads

pub place_read : (keys read : List Place) (at : ℕ) (s : Place)
    → read ≡ keys
    → s ≡ get_or read at s
    → at < length keys
    → s ≡ place_at keys at
place_read keys read at s same is low =
    is ∙ ap (λ xs. get_or xs at s) same ∙ get_or_default keys at s (record { state = 0; node = 0; cube = [] }) low

pub begin_is : (a : Automaton) (p : ℕ) (states : List ℕ) (cube : List Literal)
    → states ≡ a.states
    → cube ≡ []
    → record { state = p; node = get_or states p 0; cube = cube } ≡ begin a p
begin_is a p states cube same none = λ i. record { state = p; node = get_or (same i) p 0; cube = none i }
