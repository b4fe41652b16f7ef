-- The best offers, one at a time: offers come by their targets, so each concerns the last target, or a new one.
--
--   AreBest os ts      == ts has each target of the offers os once, by ascending states, with an offer that none beats
--   best_appended, best_kept, best_replaced == one offer more: for a new target; not better; better
--   taken_best         == they are what the targets take
--   keys_tell          == offers compare by their keys
--   put_last-shape     == what becomes of the offers with one more
--   BestSoFar, best_next, best_last == one transition more, up to the last one
--   along_one, along_none == the offers of one transition
use Rattle.std.proofs.Common.{ℕ, zero, suc, ◌≡◌, ◌+◌, ◌-◌, ◌<◌, ◌≤◌, ◌⊎◌, inl, inr, arith, Bool, true, false, not, ◌&&◌, ◌||◌}
use Rattle.std.proofs.Common.{cond, eqb, ltb, slice_get, Option, Some, None, IfSome, IfNone, Result, Err, List, [], ◌∷◌, ◌++◌}
use Rattle.std.proofs.Common.{length, get_or, take, map, refl, sym, subst, ap, ◌∙◌, append_assoc, append-nil}
use Rattle.std.specs.List.{filter}
use Rattle.std.specs.Result.{MatchResult}
use Rattle.std.proofs.Math.ListN.{set}
use Rattle.std.proofs.lemmas.Bool.{cases_Bool, cases_lt, cond-true, cond-false, eqb-true, eqb-false, eq-eqb, ne_eqb, lt-ltb, le-ltb}
use Rattle.std.proofs.lemmas.List.{length-append, map-append, take_more, get_or-take, get_or_default, length-take-le, get_or-map}
use Rattle.std.proofs.lemmas.Grind.{flat_map-append}
use Rattle.ml_lists.specs.Ascending.{IsAscending}
use Rattle.ml_lists.specs.Member.{IsMember}
use Rattle.ml_lists.proofs.Ascending.{ascending-apart, ascending-append}
use Rattle.ml_lists.proofs.Member.{Image, Place, member-append, member-append_left, member-append_right, member-place, place-member, member-map, member-map_from}
use Rattle.ml_trace.specs.declared.letters.Transition.{Transition}
use Rattle.ml_trace.specs.AutomatonNumbers.{RiseByTarget}
use Rattle.ml_trace.specs.Stack.{Item}
use Rattle.ml_trace.proofs.Stacks.{member-has}
use Rattle.ml_history.specs.declared.flat.offers.Offer.{Offer}
use Rattle.ml_history.specs.HistoryStep.{beats, last_name, live, offered, offers, offers_along, taken}
use Rattle.ml_history.specs.private.Keys.{stack_at, TellOffers, offered_by, IsOffer, wins, put_last, put_some}
use Rattle.ml_history.proofs.trees.ItemsByState.{state_of, one_item, items_same}
use Rattle.ml_history.proofs.definition.OrderOfOffers.{beats_irreflexive, beats_asymmetric, beats_not_trans}
use Rattle.ml_history.proofs.definition.LetterSets.{beats_antisymmetric}
use Rattle.ml_history.proofs.definition.NamesInUse.{live-has}
use Rattle.ml_history.proofs.definition.Offers.{offer_from}
use Rattle.ml_history.proofs.arrays.OrderOfNames.{beats-extends, beats-longer, beats-younger, front-ascends}
use Rattle.ml_history.proofs.definition.TakenOffers.{taken-offer, taken_by, taken-ascends}

-- ---- the best offers

-- an item of ts that the offer a does not beat
pub record NotBeaten (ts : List (Item ℕ)) (a : Item ℕ) : Type 0 where
  pub item : Item ℕ
  pub member : IsMember item ts
  pub state_is : item.state ≡ a.state
  pub unbeaten : beats a.stack item.stack ≡ false

-- ts has each target of the offers once, by ascending states, with an offer that none beats
pub record AreBest (os ts : List (Item ℕ)) : Type 0 where
  pub ascend : IsAscending (map state_of ts)
  pub offered : (t : Item ℕ) → IsMember t ts → IsMember t os
  pub best : (a : Item ℕ) → IsMember a os → NotBeaten ts a

pub best_none : AreBest [] []
best_none = record { ascend = tt; offered = λ t m. m; best = λ a m. absurd m }

-- a longer list
more : (ts us : List (Item ℕ)) (a : Item ℕ)
    → ((t : Item ℕ) → IsMember t ts → IsMember t us)
    → NotBeaten ts a
    → NotBeaten us a
more ts us a within n = record {
  item = n.item;
  member = within n.item n.member;
  state_is = n.state_is;
  unbeaten = n.unbeaten;
}

-- an offer for a new target
pub best_appended : (os ts : List (Item ℕ)) (o : Item ℕ)
    → AreBest os ts
    → ((t : Item ℕ) → IsMember t ts → t.state < o.state)
    → AreBest (os ++ o ∷ []) (ts ++ o ∷ [])
best_appended os ts o b high = record {
  ascend = subst IsAscending (sym (map-append state_of ts (o ∷ [])))
      (ascending-append (map state_of ts) o.state b.ascend (λ y m. below y (member-map_from state_of y ts m)));
  offered = λ t m. from t (member-append t ts (o ∷ []) m);
  best = λ a m. found a (member-append a os (o ∷ []) m);
}
  where
    below : (y : ℕ) → Image state_of y ts → y < o.state
    below y i = subst (λ n. n < o.state) (sym i.holds) (high i.from i.member)

    from : (t : Item ℕ) → IsMember t ts ⊎ ((t ≡ o) ⊎ ⊥) → IsMember t (os ++ o ∷ [])
    from t (inl m) = member-append_left t os (o ∷ []) (b.offered t m)
    from t (inr (inl e)) = member-append_right t os (o ∷ []) (inl e)
    from t (inr (inr none)) = absurd none

    found : (a : Item ℕ) → IsMember a os ⊎ ((a ≡ o) ⊎ ⊥) → NotBeaten (ts ++ o ∷ []) a
    found a (inl m) = more ts (ts ++ o ∷ []) a (λ t k. member-append_left t ts (o ∷ []) k) (b.best a m)
    found a (inr (inl e)) = record {
      item = o;
      member = member-append_right o ts (o ∷ []) (inl refl);
      state_is = sym (ap state_of e);
      unbeaten = subst (λ (v : Item ℕ). beats v.stack o.stack ≡ false) (sym e) (beats_irreflexive o.stack);
    }
    found a (inr (inr none)) = absurd none

-- an offer that is not better than what its target has
pub best_kept : (os ts : List (Item ℕ)) (o t : Item ℕ)
    → AreBest os ts
    → IsMember t ts
    → t.state ≡ o.state
    → beats o.stack t.stack ≡ false
    → AreBest (os ++ o ∷ []) ts
best_kept os ts o t b m same worse = record {
  ascend = b.ascend;
  offered = λ u k. member-append_left u os (o ∷ []) (b.offered u k);
  best = λ a k. found a (member-append a os (o ∷ []) k);
}
  where
    found : (a : Item ℕ) → IsMember a os ⊎ ((a ≡ o) ⊎ ⊥) → NotBeaten ts a
    found a (inl k) = b.best a k
    found a (inr (inl e)) = record {
      item = t;
      member = m;
      state_is = same ∙ sym (ap state_of e);
      unbeaten = subst (λ (v : Item ℕ). beats v.stack t.stack ≡ false) (sym e) worse;
    }
    found a (inr (inr none)) = absurd none

-- an offer that is better than what the last target has
pub best_replaced : (os front : List (Item ℕ)) (o t : Item ℕ)
    → AreBest os (front ++ t ∷ [])
    → t.state ≡ o.state
    → beats o.stack t.stack ≡ true
    → AreBest (os ++ o ∷ []) (front ++ o ∷ [])
best_replaced os front o t b same better = record {
  ascend = subst IsAscending (map-append state_of front (t ∷ []) ∙ ap (λ q. map state_of front ++ q ∷ []) same
      ∙ sym (map-append state_of front (o ∷ []))) b.ascend;
  offered = λ u m. from u (member-append u front (o ∷ []) m);
  best = λ a m. found a (member-append a os (o ∷ []) m);
}
  where
    from : (u : Item ℕ) → IsMember u front ⊎ ((u ≡ o) ⊎ ⊥) → IsMember u (os ++ o ∷ [])
    from u (inl m) = member-append_left u os (o ∷ []) (b.offered u (member-append_left u front (t ∷ []) m))
    from u (inr (inl e)) = member-append_right u os (o ∷ []) (inl e)
    from u (inr (inr none)) = absurd none

    new : (a : Item ℕ) → o.state ≡ a.state → beats a.stack o.stack ≡ false → NotBeaten (front ++ o ∷ []) a
    new a e f = record {
      item = o;
      member = member-append_right o front (o ∷ []) (inl refl);
      state_is = e;
      unbeaten = f;
    }

    again : (a : Item ℕ) (n : NotBeaten (front ++ t ∷ []) a)
        → IsMember n.item front ⊎ ((n.item ≡ t) ⊎ ⊥)
        → NotBeaten (front ++ o ∷ []) a
    again a n (inl m) = record {
      item = n.item;
      member = member-append_left n.item front (o ∷ []) m;
      state_is = n.state_is;
      unbeaten = n.unbeaten;
    }
    again a n (inr (inl e)) =
        new a (sym same ∙ sym (ap state_of e) ∙ n.state_is)
        (beats_not_trans a.stack t.stack o.stack (subst (λ (v : Item ℕ). beats a.stack v.stack ≡ false) e n.unbeaten)
        (beats_asymmetric o.stack t.stack better))
    again a n (inr (inr none)) = absurd none

    found : (a : Item ℕ) → IsMember a os ⊎ ((a ≡ o) ⊎ ⊥) → NotBeaten (front ++ o ∷ []) a
    found a (inl m) = let n = b.best a m in again a n (member-append n.item front (t ∷ []) n.member)
    found a (inr (inl e)) = new a (sym (ap state_of e))
        (subst (λ (v : Item ℕ). beats v.stack o.stack ≡ false) (sym e) (beats_irreflexive o.stack))
    found a (inr (inr none)) = absurd none

-- they are what the targets take
pub taken_best : (os ts : List (Item ℕ)) → AreBest os ts → ts ≡ taken os
taken_best os ts b = items_same ts (taken os) b.ascend (taken-ascends os) to from
  where
    -- two items of one state of which neither beats the other
    one : (a t : Item ℕ) → a.state ≡ t.state → beats a.stack t.stack ≡ false → beats t.stack a.stack ≡ false → a ≡ t
    one a t e f g = let s = beats_antisymmetric a.stack t.stack f g in λ i. record { state = e i; stack = s i }

    -- the best offer for the state of an item of ts is this item
    itself : (a : Item ℕ)
        → IsMember a ts
        → (t : Item ℕ)
        → IsMember t os
        → t.state ≡ a.state
        → beats t.stack a.stack ≡ false
    itself a m t k e =
        let n = b.best t k in
        let same = one_item ts b.ascend n.item a n.member m (n.state_is ∙ e) in
        subst (λ (v : Item ℕ). beats t.stack v.stack ≡ false) same n.unbeaten

    to : (a : Item ℕ) → IsMember a ts → IsMember a (taken os)
    to a m =
        let t = taken_by os a (b.offered a m) in
        let back = itself a m t.item (taken-offer os t.item t.member) t.state_is in
        subst (λ v. IsMember v (taken os)) (one t.item a t.state_is back t.unbeaten) t.member

    from : (t : Item ℕ) → IsMember t (taken os) → IsMember t ts
    from t m =
        let n = b.best t (taken-offer os t m) in
        let u = taken_by os n.item (b.offered n.item n.member) in
        let same = one_item (taken os) (taken-ascends os) u.item t u.member m (u.state_is ∙ n.state_is) in
        let back = subst (λ (v : Item ℕ). beats n.item.stack v.stack ≡ false) same u.unbeaten in
        subst (λ v. IsMember v ts) (one n.item t n.state_is back n.unbeaten) n.member

-- ---- keys

-- a stack of names below r, with a new name behind it or not, against another
module _ (r : ℕ) (s t : List ℕ) (s_low : (y : ℕ) → IsMember y s → y < r) (t_low : (y : ℕ) → IsMember y t → y < r) where
  -- a stack that beats the other does so with new names behind them too
  still_beats : (x y : ℕ) (a b : Bool)
      → r ≤ y
      → beats s t ≡ true
      → beats (cond a (s ++ x ∷ []) s) (cond b (t ++ y ∷ []) t) ≡ true
  still_beats x y true true high w =
      beats-longer s (t ++ y ∷ []) (x ∷ []) (beats-younger s t y w (λ z m. let l = s_low z m in omega arith))
  still_beats x y true false high w = beats-longer s t (x ∷ []) w
  still_beats x y false true high w = beats-younger s t y w (λ z m. let l = s_low z m in omega arith)
  still_beats x y false false high w = w

-- what is offered of two stacks, by whether one beats the other, and by new names where they are one
offered-order : (r : ℕ) (s t : List ℕ)
    → ((y : ℕ) → IsMember y s → y < r)
    → ((y : ℕ) → IsMember y t → y < r)
    → (a b : Bool)
    → beats (offered r a s) (offered r b t) ≡ (beats s t || (not (beats t s) && (a && not b)))
offered-order r s t s_low t_low a b = by_test (cases_Bool (beats s t)) (cases_Bool (beats t s))
  where
    x : ℕ
    x = r + last_name s

    y : ℕ
    y = r + last_name t

    by_kind : (c d : Bool)
        → s ≡ t
        → beats (cond c (s ++ (r + last_name s) ∷ []) s) (cond d (t ++ (r + last_name t) ∷ []) t) ≡ (c && not d)
    by_kind true true e = ap (λ u. beats (s ++ (r + last_name s) ∷ []) (u ++ (r + last_name u) ∷ [])) (sym e)
        ∙ beats_irreflexive (s ++ (r + last_name s) ∷ [])
    by_kind true false e = ap (beats (s ++ (r + last_name s) ∷ [])) (sym e) ∙ beats-extends s (r + last_name s)
    by_kind false true e = ap (λ u. beats u (t ++ (r + last_name t) ∷ [])) e
        ∙ beats_asymmetric (t ++ (r + last_name t) ∷ []) t (beats-extends t (r + last_name t))
    by_kind false false e = ap (λ u. beats u t) e ∙ beats_irreflexive t

    by_test : (beats s t ≡ true) ⊎ (beats s t ≡ false)
        → (beats t s ≡ true) ⊎ (beats t s ≡ false)
        → beats (offered r a s) (offered r b t) ≡ (beats s t || (not (beats t s) && (a && not b)))
    by_test (inl w) any = still_beats r s t s_low t_low x y a b (omega arith) w
        ∙ sym (ap (λ v. v || (not (beats t s) && (a && not b))) w)
    by_test (inr f) (inl w) =
        beats_asymmetric (offered r b t) (offered r a s) (still_beats r t s t_low s_low y x b a (omega arith) w)
        ∙ sym ((λ i. f i || (not (w i) && (a && not b))))
    by_test (inr f) (inr g) = by_kind a b (beats_antisymmetric s t f g) ∙ sym (λ i. f i || (not (g i) && (a && not b)))

-- the same of places
place_order : (m n : ℕ) (c : Bool) → (ltb m n || (not (ltb n m) && c)) ≡ (ltb m n || (eqb m n && c))
place_order m n c = by_place (cases_lt m n) (cases_lt n m)
  where
    by_place : (m < n) ⊎ (n ≤ m) → (n < m) ⊎ (m ≤ n) → (ltb m n || (not (ltb n m) && c)) ≡ (ltb m n || (eqb m n && c))
    by_place (inl less) any = let t = lt-ltb m n less in (λ i. t i || (not (ltb n m) && c))
        ∙ sym (λ i. t i || (eqb m n && c))
    by_place (inr high) (inl less) =
        let t = lt-ltb n m less in
        let f = ne_eqb m n (λ e. omega arith) in
        (λ i. ltb m n || (not (t i) && c)) ∙ sym (λ i. ltb m n || (f i && c))
    by_place (inr high) (inr low) =
        let f = le-ltb n m low in
        let t = eq-eqb m n (let e : m ≡ n = omega arith in e) in
        (λ i. ltb m n || (not (f i) && c)) ∙ sym (λ i. ltb m n || (t i && c))

-- offers compare by their keys
pub keys_tell : (h : List (Item ℕ)) (places : List ℕ) (o b : Offer)
    → TellOffers places h
    → IsOffer h places o
    → IsOffer h places b
    → beats (offered_by h o).stack (offered_by h b).stack ≡ wins o b
keys_tell h places o b tell io ib =
    offered-order (live h) (stack_at h o.source) (stack_at h b.source) (low o io) (low b ib) o.accepting b.accepting
    ∙ (λ i. to i || (not (back i) && (o.accepting && not b.accepting)))
    ∙ place_order o.place b.place (o.accepting && not b.accepting)
  where
    source : Offer → Item ℕ
    source v = get_or h v.source (record { state = 0; stack = [] })

    member : (v : Offer) → IsOffer h places v → IsMember (get_or h v.source (record { state = 0; stack = [] })) h
    member v is = place-member h v.source (record { state = 0; stack = [] }) is.has_source

    low : (v : Offer) → IsOffer h places v → (y : ℕ) → IsMember y (stack_at h v.source) → y < live h
    low v is y m = live-has h y (get_or h v.source (record { state = 0; stack = [] })) (member v is)
        (member-has y (stack_at h v.source) m)

    to : beats (stack_at h o.source) (stack_at h b.source) ≡ ltb o.place b.place
    to = tell.tell (get_or h o.source (record { state = 0; stack = [] }))
        (get_or h b.source (record { state = 0; stack = [] })) (member o io) (member b ib)
        ∙ sym (λ i. ltb (io.place_is i) (ib.place_is i))

    back : beats (stack_at h b.source) (stack_at h o.source) ≡ ltb b.place o.place
    back = tell.tell (get_or h b.source (record { state = 0; stack = [] }))
        (get_or h o.source (record { state = 0; stack = [] })) (member b ib) (member o io)
        ∙ sym (λ i. ltb (ib.place_is i) (io.place_is i))

-- ---- one offer more

-- a list that is not empty has a last entry
pub record Snoc (bs : List Offer) : Type 0 where
  pub front : List Offer
  pub last : Offer
  pub is : bs ≡ front ++ last ∷ []

pub snoc : (b : Offer) (bs : List Offer) → Snoc (b ∷ bs)
snoc b [] = record { front = []; last = b; is = refl }
snoc b (c ∷ cs) = let r = snoc c cs in record { front = b ∷ r.front; last = r.last; is = ap (λ l. b ∷ l) r.is }

-- an offer concerns the last one alone
pub put_last-at : (o b : Offer) (front : List Offer) → put_last o (front ++ b ∷ []) ≡ front ++ put_last o (b ∷ [])
put_last-at o b [] = refl
put_last-at o b (x ∷ []) = refl
put_last-at o b (x ∷ (y ∷ ys)) = ap (λ l. x ∷ l) (put_last-at o b (y ∷ ys))

module _ (o b : Offer) where
  put-other : eqb b.target o.target ≡ false → put_last o (b ∷ []) ≡ b ∷ (o ∷ [])
  put-other f = cond-false (eqb b.target o.target) (cond (wins o b) (o ∷ []) (b ∷ [])) (b ∷ (o ∷ [])) f

  put-better : eqb b.target o.target ≡ true → wins o b ≡ true → put_last o (b ∷ []) ≡ o ∷ []
  put-better t w = cond-true (eqb b.target o.target) (cond (wins o b) (o ∷ []) (b ∷ [])) (b ∷ (o ∷ [])) t
      ∙ cond-true (wins o b) (o ∷ []) (b ∷ []) w

  put-worse : eqb b.target o.target ≡ true → wins o b ≡ false → put_last o (b ∷ []) ≡ b ∷ []
  put-worse t w = cond-true (eqb b.target o.target) (cond (wins o b) (o ∷ []) (b ∷ [])) (b ∷ (o ∷ [])) t
      ∙ cond-false (wins o b) (o ∷ []) (b ∷ []) w

-- each offer is the new one or stood before
pub put_last-member : (v o : Offer) (bs : List Offer) → IsMember v (put_last o bs) → (v ≡ o) ⊎ IsMember v bs
put_last-member v o [] (inl e) = inl e
put_last-member v o [] (inr none) = absurd none
put_last-member v o (b ∷ []) m = by_test (cases_Bool (eqb b.target o.target)) (cases_Bool (wins o b))
  where
    one : (c : Offer) → IsMember v (c ∷ []) → v ≡ c
    one c (inl e) = e
    one c (inr none) = absurd none

    two : IsMember v (b ∷ (o ∷ [])) → (v ≡ o) ⊎ IsMember v (b ∷ [])
    two (inl e) = inr (inl e)
    two (inr k) = inl (one o k)

    by_test : (eqb b.target o.target ≡ true) ⊎ (eqb b.target o.target ≡ false)
        → (wins o b ≡ true) ⊎ (wins o b ≡ false)
        → (v ≡ o) ⊎ IsMember v (b ∷ [])
    by_test (inl t) (inl w) = inl (one o (subst (IsMember v) (put-better o b t w) m))
    by_test (inl t) (inr w) = inr (subst (IsMember v) (put-worse o b t w) m)
    by_test (inr f) any = two (subst (IsMember v) (put-other o b f) m)
put_last-member v o (b ∷ (c ∷ cs)) (inl e) = inr (inl e)
put_last-member v o (b ∷ (c ∷ cs)) (inr m) = further (put_last-member v o (c ∷ cs) m)
  where
    further : (v ≡ o) ⊎ IsMember v (c ∷ cs) → (v ≡ o) ⊎ IsMember v (b ∷ (c ∷ cs))
    further (inl e) = inl e
    further (inr k) = inr (inr k)

-- the best offers with one more, whose target is none before those of the others
module _ (h : List (Item ℕ)) (places : List ℕ) (tell : TellOffers places h) where
  pub best_put : (os : List (Item ℕ)) (bs : List Offer) (o : Offer) → AreBest os (map (offered_by h) bs)
      → ((b : Offer) → IsMember b bs → IsOffer h places b) → IsOffer h places o
      → ((a : Item ℕ) → IsMember a os → a.state ≤ o.target)
      → AreBest (os ++ offered_by h o ∷ []) (map (offered_by h) (put_last o bs))
  best_put os [] o best valid io late = best_appended os [] (offered_by h o) best (λ t m. absurd m)
  best_put os (c ∷ cs) o best valid io late = at_end (snoc c cs)
    where
      f : Offer → Item ℕ
      f = offered_by h

      at_end : Snoc (c ∷ cs) → AreBest (os ++ offered_by h o ∷ []) (map (offered_by h) (put_last o (c ∷ cs)))
      at_end s = subst (λ bs. AreBest (os ++ offered_by h o ∷ []) (map (offered_by h) (put_last o bs))) (sym s.is)
          (subst (λ bs. AreBest (os ++ offered_by h o ∷ []) (map (offered_by h) bs))
          (sym (put_last-at o s.last s.front)) (by_test (cases_Bool (eqb s.last.target o.target))
          (cases_Bool (wins o s.last))))
        where
          b : Offer
          b = s.last

          ib : IsOffer h places s.last
          ib = valid s.last (subst (IsMember s.last) (sym s.is)
              (member-append_right s.last s.front (s.last ∷ []) (inl refl)))

          before : AreBest os (map (offered_by h) s.front ++ offered_by h s.last ∷ [])
          before = subst (AreBest os) (ap (map (offered_by h)) s.is ∙ map-append (offered_by h) s.front (s.last ∷ []))
              best

          last_member : IsMember (offered_by h s.last) (map (offered_by h) s.front ++ offered_by h s.last ∷ [])
          last_member = member-append_right (offered_by h s.last) (map (offered_by h) s.front)
              (offered_by h s.last ∷ []) (inl refl)

          order : IsAscending (map state_of (map (offered_by h) s.front) ++ s.last.target ∷ [])
          order = subst IsAscending (map-append state_of (map (offered_by h) s.front) (offered_by h s.last ∷ []))
              before.ascend

          lower : eqb s.last.target o.target ≡ false
              → (t : Item ℕ)
              → IsMember t (map (offered_by h) s.front) ⊎ ((t ≡ offered_by h s.last) ⊎ ⊥)
              → t.state < o.target
          lower g t (inl m) =
              let less = (front-ascends (map state_of (map (offered_by h) s.front)) s.last.target order).1 t.state
              (member-map state_of t (map (offered_by h) s.front) m) in
              let le = late (offered_by h s.last) (before.offered (offered_by h s.last) last_member) in
              omega arith
          lower g t (inr (inl e)) =
              let le = late (offered_by h s.last) (before.offered (offered_by h s.last) last_member) in
              let ne = eqb-false s.last.target o.target g in
              let is : t.state ≡ s.last.target = ap state_of e in
              omega arith
          lower g t (inr (inr none)) = absurd none

          by_test : (eqb s.last.target o.target ≡ true) ⊎ (eqb s.last.target o.target ≡ false)
              → (wins o s.last ≡ true) ⊎ (wins o s.last ≡ false)
              → AreBest (os ++ offered_by h o ∷ []) (map (offered_by h) (s.front ++ put_last o (s.last ∷ [])))
          by_test (inl t) (inl w) =
              subst (AreBest (os ++ offered_by h o ∷ []))
              (sym (ap (λ l. map (offered_by h) (s.front ++ l)) (put-better o s.last t w)
              ∙ map-append (offered_by h) s.front (o ∷ [])))
              (best_replaced os (map (offered_by h) s.front) (offered_by h o) (offered_by h s.last) before
              (eqb-true s.last.target o.target t) (keys_tell h places o s.last tell io ib ∙ w))
          by_test (inl t) (inr w) =
              subst (AreBest (os ++ offered_by h o ∷ []))
              (sym (ap (λ l. map (offered_by h) (s.front ++ l)) (put-worse o s.last t w)
              ∙ map-append (offered_by h) s.front (s.last ∷ [])))
              (best_kept os (map (offered_by h) s.front ++ offered_by h s.last ∷ []) (offered_by h o)
              (offered_by h s.last) before last_member (eqb-true s.last.target o.target t)
              (keys_tell h places o s.last tell io ib ∙ w))
          by_test (inr g) any =
              subst (AreBest (os ++ offered_by h o ∷ []))
              (sym (ap (λ l. map (offered_by h) (s.front ++ l)) (put-other o s.last g)
              ∙ map-append (offered_by h) s.front (s.last ∷ (o ∷ []))
              ∙ sym (append_assoc (map (offered_by h) s.front) (offered_by h s.last ∷ []) (offered_by h o ∷ []))))
              (best_appended os (map (offered_by h) s.front ++ offered_by h s.last ∷ []) (offered_by h o) before
              (λ t m. lower g t (member-append t (map (offered_by h) s.front) (offered_by h s.last ∷ []) m)))

-- ---- the letter

-- the best offers of the first k transitions of a letter
pub record BestSoFar (h : List (Item ℕ)) (places : List ℕ) (letter : List Transition) (k : ℕ) (bs : List Offer) : Type 0
  where
    pub best : AreBest (offers h (take k letter)) (map (offered_by h) bs)
    pub valid : (b : Offer) → IsMember b bs → IsOffer h places b

-- no transition
pub best_first : (h : List (Item ℕ)) (places : List ℕ) (letter : List Transition) → BestSoFar h places letter 0 []
best_first h places [] = record { best = best_none; valid = λ b m. absurd m }
best_first h places (t ∷ ts) = record { best = best_none; valid = λ b m. absurd m }

offers_more : (h : List (Item ℕ)) (letter : List Transition) (k : ℕ) (d : Transition)
    → k < length letter
    → offers h (take (k + 1) letter) ≡ offers h (take k letter) ++ offers_along h (get_or letter k d)
offers_more h letter k d low =
    ap (offers h) (take_more letter k d low)
    ∙ flat_map-append (offers_along h) (take k letter) (get_or letter k d ∷ [])
    ∙ ap (λ l. offers h (take k letter) ++ l) (append-nil (offers_along h (get_or letter k d)))

-- the targets of the first transitions are at most that of the next one
offers_late : (h : List (Item ℕ)) (letter : List Transition) (k : ℕ) (d : Transition)
    → RiseByTarget letter
    → k < length letter
    → (a : Item ℕ)
    → IsMember a (offers h (take k letter))
    → a.state ≤ (get_or letter k d).to
offers_late h letter k d rise low a m =
    let f = offer_from h (take k letter) a m in
    let t : Transition = record { from = f.source.state; to = a.state; accepting = f.accepting } in
    at (member-place t (take k letter) f.transition)
  where
    at : {t : Transition} → Place t (take k letter) → t.to ≤ (get_or letter k d).to
    at {t} p =
        let early : p.place < k = let b = p.below in let l = length-take-le k letter (omega arith) in omega arith in
        let is : (get_or letter p.place t).to ≡ t.to =
        ap (λ (u : Transition). u.to) (sym (get_or-take k letter p.place t early) ∙ p.holds t) in
        let le = rise p.place k t (omega arith) low in
        let same : get_or letter k t ≡ get_or letter k d = get_or_default letter k t d low in
        subst (λ n. n ≤ (get_or letter k d).to) is
        (subst (λ (u : Transition). (get_or letter p.place t).to ≤ u.to) same le)

-- one transition more, along which there is no offer
pub best_without : (h : List (Item ℕ)) (places : List ℕ) (letter : List Transition) (k : ℕ) (bs : List Offer)
    (d : Transition)
    → k < length letter
    → BestSoFar h places letter k bs
    → offers_along h (get_or letter k d) ≡ []
    → BestSoFar h places letter (k + 1) bs
best_without h places letter k bs d low b none = record {
  best = subst (λ os. AreBest os (map (offered_by h) bs))
      (sym (offers_more h letter k d low ∙ ap (λ l. offers h (take k letter) ++ l) none
      ∙ append-nil (offers h (take k letter)))) b.best;
  valid = b.valid;
}

-- one transition more, with its offer
pub best_with : (h : List (Item ℕ)) (places : List ℕ) (letter : List Transition) (k : ℕ) (bs : List Offer)
    (d : Transition) (o : Offer)
    → TellOffers places h
    → RiseByTarget letter
    → k < length letter
    → BestSoFar h places letter k bs
    → IsOffer h places o
    → offers_along h (get_or letter k d) ≡ offered_by h o ∷ []
    → o.target ≡ (get_or letter k d).to
    → BestSoFar h places letter (k + 1) (put_last o bs)
best_with h places letter k bs d o tell rise low b io one target = record {
  best = subst (λ os. AreBest os (map (offered_by h) (put_last o bs)))
      (sym (offers_more h letter k d low ∙ ap (λ l. offers h (take k letter) ++ l) one))
      (best_put h places tell (offers h (take k letter)) bs o b.best b.valid io
      (λ a m. subst (λ n. a.state ≤ n) (sym target) (offers_late h letter k d rise low a m)));
  valid = λ v m. valid v (put_last-member v o bs m);
}
  where
    valid : (v : Offer) → (v ≡ o) ⊎ IsMember v bs → IsOffer h places v
    valid v (inl e) = subst (IsOffer h places) (sym e) io
    valid v (inr m) = b.valid v m

take_everything : (ts : List Transition) (k : ℕ) → length ts ≤ k → take k ts ≡ ts
take_everything [] zero all = refl
take_everything [] (suc k) all = refl
take_everything (t ∷ ts) zero all = absurd (omega arith)
take_everything (t ∷ ts) (suc k) all = ap (λ l. t ∷ l) (take_everything ts k (omega arith))

-- one transition more, with its offer or without
pub best_next : (h : List (Item ℕ)) (places : List ℕ) (letter : List Transition) (k : ℕ) (bs bs' : List Offer)
    (d : Transition) (r : Option Offer)
    → TellOffers places h
    → RiseByTarget letter
    → k < length letter
    → BestSoFar h places letter k bs
    → IfSome r (λ o. IsOffer h places o × (o.target ≡ (get_or letter k d).to)
    × (offers_along h (get_or letter k d) ≡ offered_by h o ∷ []))
    → IfNone r (offers_along h (get_or letter k d) ≡ [])
    → bs' ≡ put_some r bs
    → BestSoFar h places letter (k + 1) bs'
best_next h places letter k bs bs' d None tell rise low b one none is =
    subst (BestSoFar h places letter (k + 1)) (sym is) (best_without h places letter k bs d low b none)
best_next h places letter k bs bs' d (Some o) tell rise low b one none is =
    subst (BestSoFar h places letter (k + 1)) (sym is)
    (best_with h places letter k bs d o tell rise low b one.0 one.2 one.1)

-- behind the last transition the best offers are taken
pub best_last : (h : List (Item ℕ)) (places : List ℕ) (letter : List Transition) (k : ℕ) (bs : List Offer)
    → length letter ≤ k
    → BestSoFar h places letter k bs
    → map (offered_by h) bs ≡ taken (offers h letter)
best_last h places letter k bs all b = taken_best (offers h (take k letter)) (map (offered_by h) bs) b.best
    ∙ ap (λ l. taken (offers h l)) (take_everything letter k all)

-- ---- the offers of one transition

-- where a state has an item, it is the only one that passes the test for the state
filter-none : (q : ℕ) (h : List (Item ℕ))
    → ((a : Item ℕ) → IsMember a h → a.state ≡ q → ⊥)
    → filter (λ (a : Item ℕ). eqb a.state q) h ≡ []
filter-none q [] none = refl
filter-none q (a ∷ as') none =
    cond-false (eqb a.state q) (a ∷ filter (λ (b : Item ℕ). eqb b.state q) as')
    (filter (λ (b : Item ℕ). eqb b.state q) as') (ne_eqb a.state q (none a (inl refl)))
    ∙ filter-none q as' (λ b m. none b (inr m))

filter-one : (h : List (Item ℕ)) (i : ℕ) (d : Item ℕ)
    → IsAscending (map state_of h)
    → i < length h
    → filter (λ (a : Item ℕ). eqb a.state (get_or h i d).state) h ≡ get_or h i d ∷ []
filter-one [] i d up low = absurd (omega arith)
filter-one (a ∷ as') zero d up low =
    cond-true (eqb a.state a.state) (a ∷ filter (λ (b : Item ℕ). eqb b.state a.state) as')
    (filter (λ (b : Item ℕ). eqb b.state a.state) as') (eq-eqb a.state a.state refl)
    ∙ ap (λ l. a ∷ l)
    (filter-none a.state as' (λ b m e. let l = up.0 b.state (member-map state_of b as' m) in omega arith))
filter-one (a ∷ as') (suc i) d up low =
    let higher = up.0 (get_or as' i d).state
    (member-map state_of (get_or as' i d) as' (place-member as' i d (omega arith))) in
    cond-false (eqb a.state (get_or as' i d).state)
    (a ∷ filter (λ (b : Item ℕ). eqb b.state (get_or as' i d).state) as')
    (filter (λ (b : Item ℕ). eqb b.state (get_or as' i d).state) as')
    (ne_eqb a.state (get_or as' i d).state (λ e. omega arith))
    ∙ filter-one as' i d up.1 (omega arith)

-- the offer of a transition from the state at a place
pub along_one : (h : List (Item ℕ)) (t : Transition) (o : Offer)
    → IsAscending (map state_of h)
    → o.source < length h
    → get_or (map state_of h) o.source 0 ≡ t.from
    → o.target ≡ t.to
    → o.accepting ≡ t.accepting
    → offers_along h t ≡ offered_by h o ∷ []
along_one h t o up low from to accepts =
    let d : Item ℕ = record { state = 0; stack = [] } in
    let is : (get_or h o.source d).state ≡ t.from = sym (get_or-map state_of h o.source d 0 low) ∙ from in
    ap (λ q. map (λ (a : Item ℕ). record { state = t.to; stack = offered (live h) t.accepting a.stack })
    (filter (λ (a : Item ℕ). eqb a.state q) h)) (sym is)
    ∙ ap (map (λ (a : Item ℕ). record { state = t.to; stack = offered (live h) t.accepting a.stack }))
    (filter-one h o.source d up low)
    ∙ (λ i. record { state = sym to i; stack = offered (live h) (sym accepts i) (stack_at h o.source) } ∷ [])

-- none from a state that has no place
pub along_none : (h : List (Item ℕ)) (t : Transition)
    → ((k : ℕ) → k < length h → get_or (map state_of h) k 0 ≡ t.from → ⊥)
    → offers_along h t ≡ []
along_none h t none =
    ap (map (λ (a : Item ℕ). record { state = t.to; stack = offered (live h) t.accepting a.stack }))
    (filter-none t.from h (λ a m e. at a e (member-place a h m)))
  where
    at : (a : Item ℕ) → a.state ≡ t.from → Place a h → ⊥
    at a e p = none p.place p.below (get_or-map state_of h p.place a 0 p.below ∙ ap state_of (p.holds a) ∙ e)

-- what a binary search for x in xs finds
abbrev pub Found : List ℕ → ℕ → Result ℕ ℕ → Type 0
Found xs x r = MatchResult r (λ i. (i < length xs) × (get_or xs i 0 ≡ x))
    (λ i. (i ≤ length xs) × ((k : ℕ) → k < i → get_or xs k 0 < x)
    × ((k : ℕ) → i ≤ k → k < length xs → x < get_or xs k 0))

-- where it finds nothing, x stands nowhere
pub nowhere : (xs : List ℕ) (x i : ℕ) → Found xs x (Err i) → (k : ℕ) → k < length xs → get_or xs k 0 ≡ x → ⊥
nowhere xs x i f k low e = by_place (cases_lt k i)
  where
    by_place : (k < i) ⊎ (i ≤ k) → ⊥
    by_place (inl less) = let l = f.1 k less in omega arith
    by_place (inr high) = let l = f.2 k high low in omega arith

-- numbers that do not descend
abbrev pub Rises : List ℕ → Type 0
Rises xs = (i j : ℕ) → i ≤ j → j < length xs → get_or xs i 0 ≤ get_or xs j 0

-- states that ascend do not descend
pub states_rise : (xs : List ℕ) → IsAscending xs → Rises xs
states_rise xs up i j le low = by_place (cases_lt i j)
  where
    by_place : (i < j) ⊎ (j ≤ i) → get_or xs i 0 ≤ get_or xs j 0
    by_place (inl less) = let l = ascending-apart xs i j 0 up less low in omega arith
    by_place (inr high) = let e : i ≡ j = omega arith in omega (arith, ap (λ k. get_or xs k 0) e)

-- ---- the last offer, as a program finds it

-- what stands at the end of a list
pub at_end : (b : Offer) (bs : List Offer)
    → slice_get bs (length bs - 1) ≡ Some b
    → (front : List Offer) × (bs ≡ front ++ b ∷ [])
at_end b [] e = absurd (cc)
at_end b (x ∷ []) e = let is : x ≡ b = cc in ([], ap (λ v. v ∷ []) is)
at_end b (x ∷ (y ∷ ys)) e =
    let k : suc (suc (length ys)) - 1 ≡ suc (suc (length ys) - 1) = omega arith in
    let r = at_end b (y ∷ ys) (sym (ap (slice_get (x ∷ (y ∷ ys))) k) ∙ e) in
    (x ∷ r.0, ap (λ l. x ∷ l) r.1)

set-end : (front : List Offer) (b o : Offer) → set (front ++ b ∷ []) (length (front ++ b ∷ []) - 1) o ≡ front ++ o ∷ []
set-end [] b o = refl
set-end (x ∷ front) b o = ap (λ k. set (x ∷ (front ++ b ∷ [])) k o) e ∙ ap (λ l. x ∷ l) (set-end front b o)
  where
    e : length (x ∷ (front ++ b ∷ [])) - 1 ≡ suc (length (front ++ b ∷ []) - 1)
    e = let n = length-append front (b ∷ []) in omega arith

module _ (o b : Offer) (bs : List Offer) (last : slice_get bs (length bs - 1) ≡ Some b) where
  put-is : put_last o bs ≡ (at_end b bs last).0 ++ put_last o (b ∷ [])
  put-is = ap (put_last o) (at_end b bs last).1 ∙ put_last-at o b (at_end b bs last).0

  pub put_other : (b.target ≡ o.target → ⊥) → bs ++ o ∷ [] ≡ put_last o bs
  put_other ne =
      ap (λ l. l ++ o ∷ []) (at_end b bs last).1
      ∙ append_assoc (at_end b bs last).0 (b ∷ []) (o ∷ [])
      ∙ sym (put-is ∙ ap (λ l. (at_end b bs last).0 ++ l) (put-other o b (ne_eqb b.target o.target ne)))

  pub put_better : (n : ℕ) → n ≡ length bs → b.target ≡ o.target → wins o b ≡ true → set bs (n - 1) o ≡ put_last o bs
  put_better n is e w =
      ap (λ m. set bs (m - 1) o) is
      ∙ ap (λ l. set l (length l - 1) o) (at_end b bs last).1
      ∙ set-end (at_end b bs last).0 b o
      ∙ sym (put-is ∙ ap (λ l. (at_end b bs last).0 ++ l) (put-better o b (eq-eqb b.target o.target e) w))

  pub put_worse : b.target ≡ o.target → wins o b ≡ false → bs ≡ put_last o bs
  put_worse e w = (at_end b bs last).1
      ∙ sym (put-is ∙ ap (λ l. (at_end b bs last).0 ++ l) (put-worse o b (eq-eqb b.target o.target e) w))
