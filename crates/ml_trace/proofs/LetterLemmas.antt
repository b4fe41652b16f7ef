-- The transitions that `letter_of` makes are those that the triples give.
--
--   odd_place            == in an ascending list each odd priority stands at its own index
--   rows-letter          == the transitions that are made for some triples are the letter of these
--   letter-more          == the letters of two lists of triples, one behind the other, are the letter of both
--   letter-moved         == a letter is one in whatever order, of triples in whatever order
--   letter-small         == its ends are below 2^30
use Rattle.std.proofs.Common.{ℕ, zero, suc, ◌≡◌, ◌+◌, ◌*◌, ◌^◌, ◌<◌, ◌≤◌, ◌⊎◌, inl, inr, arith, Bool, true, false, leb, eqb, Option, Some}
use Rattle.std.proofs.Common.{None, List, [], ◌∷◌, ◌++◌, ◌-◌, length, map, take, drop, get_or, refl, sym, subst, ap, ◌∙◌}
use Rattle.std.proofs.lemmas.Bool.{cases_Bool, cases_lt, cond-true, cond-false, leb-true, le-leb, eq-eqb, ne_eqb}
use Rattle.std.proofs.lemmas.List.{take_all}
use Rattle.std.proofs.lemmas.List.Elements.{All-take, All-drop}
use Rattle.std.proofs.lemmas.List.Sorted.{All-permutation}
use Rattle.std.proofs.lemmas.List.Sums.{position_or_len_is}
use Rattle.std.proofs.Math.Seq.{take-add}
use Rattle.std.specs.List.{position_or_len, flat_map}
use Rattle.std.specs.List.Sorted.{IsPermutation}
use Rattle.ml_lists.specs.Ascending.{IsAscending}
use Rattle.ml_lists.specs.Member.{IsMember}
use Rattle.ml_lists.proofs.Ascending.{ascending-apart}
use Rattle.ml_lists.proofs.Permuted.{same_members}
use Rattle.ml_lists.proofs.Member.{Image, InList, member-append, member-append_left, member-append_right, member-map, member-map_from}
use Rattle.ml_lists.proofs.Member.{member-flat_map, member-flat_map_from, member-place, place-member, All-member, member-All}
use Rattle.ml_trace.specs.declared.letters.Transition.{Transition}
use Rattle.ml_trace.specs.declared.letters.Triple.{Triple}
use Rattle.ml_trace.specs.Automaton.{states_per_node, guess_place, Leads, Gives, IsLetterOf}
use Rattle.ml_trace.specs.AutomatonNumbers.{HasRoom, AllHaveRoom, HasSmallEnds}
use Rattle.ml_trace.specs.private.LetterMoves.{plain, plain_move, move_at, rows_below, rows}

-- in an ascending list each odd priority stands at its own index
pub odd_place : (odds : List ℕ) (j : ℕ)
    → IsAscending odds
    → j < length odds
    → position_or_len (λ e. eqb e (get_or odds j 0)) odds ≡ j
odd_place odds j a low =
    position_or_len_is (λ e. eqb e (get_or odds j 0)) odds j 0 (omega arith)
    (λ k early. let less = ascending-apart odds k j 0 a early low in ne_eqb (get_or odds k 0) (get_or odds j 0) (λ e. omega arith))
    (λ fits. eq-eqb (get_or odds j 0) (get_or odds j 0) refl)

-- the place of the guess of the odd priority at an index
guess_place-at : (odds : List ℕ) (j : ℕ)
    → IsAscending odds
    → j < length odds
    → guess_place odds (Some (get_or odds j 0)) ≡ j + 1
guess_place-at odds j a low = ap (λ v. v + 1) (odd_place odds j a low)

-- the place of the guess of an odd priority, by where that stands
guess_place-of : (odds : List ℕ) (d : ℕ)
    → IsAscending odds
    → (m : IsMember d odds)
    → guess_place odds (Some d) ≡ (member-place d odds m).place + 1
guess_place-of odds d a m =
    let p = member-place d odds m in
    ap (λ v. guess_place odds (Some v)) (sym (p.holds 0)) ∙ guess_place-at odds p.place a p.below

-- two transitions with the same ends, that accept alike, are one
same_transition : (m : Transition) (p q : ℕ) (b : Bool)
    → m.from ≡ p
    → m.to ≡ q
    → m.accepting ≡ b
    → m ≡ record { from = p; to = q; accepting = b }
same_transition m p q b f t a = λ i. record { from = f i; to = t i; accepting = a i }

-- the transition is given by one of the triples
abbrev IsGiven : List ℕ → List Triple → Transition → Type 0
IsGiven odds ts m = (t : Triple) × IsMember t ts × Gives odds t m

module _ (odds : List ℕ) (a : IsAscending odds) (t : Triple) where
  -- the transition that keeps the guess of the odd priority with the index j
  abbrev kept : (j : ℕ) → Transition
  kept j = record {
    from = plain odds t.from + (j + 1);
    to = plain odds t.to + (j + 1);
    accepting = eqb (get_or odds j 0) t.lowest;
  }

  -- what is made without a guess is given
  plain_move-give : (m : Transition) → m ≡ plain_move odds t → Gives odds t m
  plain_move-give m is = record {
    before = None;
    behind = None;
    leads = ap (λ (v : Transition). v.accepting) is;
    from_is = let e : t.from * states_per_node odds ≡ t.from * states_per_node odds + 0 = omega arith in ap (λ (v : Transition). v.from) is ∙ e;
    to_is = let e : t.to * states_per_node odds ≡ t.to * states_per_node odds + 0 = omega arith in ap (λ (v : Transition). v.to) is ∙ e;
  }

  -- what is made for the odd priority with the index j is given
  move_at-give : (j : ℕ) → j < length odds → (m : Transition) → IsMember m (move_at odds j t) → Gives odds t m
  move_at-give j low m (inl is) = record {
    before = None;
    behind = Some (get_or odds j 0);
    leads = (place-member odds j 0 low, ap (λ (v : Transition). v.accepting) is);
    from_is = let e : t.from * states_per_node odds ≡ t.from * states_per_node odds + 0 = omega arith in ap (λ (v : Transition). v.from) is ∙ e;
    to_is = ap (λ (v : Transition). v.to) is ∙ ap (λ v. t.to * states_per_node odds + v) (sym (guess_place-at odds j a low));
  }
  move_at-give j low m (inr later) = by_test (cases_Bool (leb (get_or odds j 0) t.lowest))
    where
      from_only : leb (get_or odds j 0) t.lowest ≡ true → IsMember m (kept j ∷ []) → Gives odds t m
      from_only le (inr none) = absurd none
      from_only le (inl is) = record {
        before = Some (get_or odds j 0);
        behind = Some (get_or odds j 0);
        leads = (refl, place-member odds j 0 low, leb-true (get_or odds j 0) t.lowest le, ap (λ (v : Transition). v.accepting) is);
        from_is = ap (λ (v : Transition). v.from) is ∙ ap (λ v. t.from * states_per_node odds + v) (sym (guess_place-at odds j a low));
        to_is = ap (λ (v : Transition). v.to) is ∙ ap (λ v. t.to * states_per_node odds + v) (sym (guess_place-at odds j a low));
      }

      by_test : (leb (get_or odds j 0) t.lowest ≡ true) ⊎ (leb (get_or odds j 0) t.lowest ≡ false) → Gives odds t m
      by_test (inl le) = from_only le (subst (IsMember m) (cond-true (leb (get_or odds j 0) t.lowest) (kept j ∷ []) [] le) later)
      by_test (inr high) = absurd (subst (IsMember m) (cond-false (leb (get_or odds j 0) t.lowest) (kept j ∷ []) [] high) later)

module _ (odds : List ℕ) (a : IsAscending odds) (ts : List Triple) where
  -- what is made without a guess, and for the indices below n, is given by one of the triples
  rows_below-give : (n : ℕ) → n ≤ length odds → (m : Transition) → IsMember m (rows_below odds ts n) → IsGiven odds ts m
  rows_below-give zero fits m i =
      let o : Image (plain_move odds) m ts = member-map_from (plain_move odds) m ts i in
      (o.from, o.member, plain_move-give odds a o.from m o.holds)
  rows_below-give (suc n) fits m i =
      by_part (member-append m (rows_below odds ts n) (flat_map (move_at odds n) ts) i)
      (rows_below-give n (omega arith) m)
    where
      by_part : IsMember m (rows_below odds ts n) ⊎ IsMember m (flat_map (move_at odds n) ts)
          → (IsMember m (rows_below odds ts n) → IsGiven odds ts m)
          → IsGiven odds ts m
      by_part (inl early) rest = rest early
      by_part (inr here) rest =
          let o : InList (move_at odds n) m ts = member-flat_map_from (move_at odds n) m ts here in
          (o.from, o.member, move_at-give odds a o.from n (omega arith) m o.inside)

  -- what is made for an index is made
  rows_below-has : (n j : ℕ)
      → j < n
      → (m : Transition)
      → IsMember m (flat_map (move_at odds j) ts)
      → IsMember m (rows_below odds ts n)
  rows_below-has zero j low m i = absurd (omega arith)
  rows_below-has (suc n) j low m i = by_place (cases_lt j n) (λ l. rows_below-has n j l m i)
    where
      by_place : (j < n) ⊎ (n ≤ j)
          → (j < n → IsMember m (rows_below odds ts n))
          → IsMember m (rows_below odds ts n ++ flat_map (move_at odds n) ts)
      by_place (inl early) rest =
          member-append_left m (rows_below odds ts n) (flat_map (move_at odds n) ts) (rest early)
      by_place (inr late) rest =
          let e : j ≡ n = omega arith in
          member-append_right m (rows_below odds ts n) (flat_map (move_at odds n) ts)
          (subst (λ v. IsMember m (flat_map (move_at odds v) ts)) e i)

  -- what is made without a guess is made
  rows_below-plain : (n : ℕ) (m : Transition)
      → IsMember m (map (plain_move odds) ts)
      → IsMember m (rows_below odds ts n)
  rows_below-plain zero m i = i
  rows_below-plain (suc n) m i =
      member-append_left m (rows_below odds ts n) (flat_map (move_at odds n) ts) (rows_below-plain n m i)

  -- each transition that one of the triples gives is made
  by_guess : (t : Triple) (m : Transition) (g h : Option ℕ)
      → IsMember t ts
      → Leads odds t.lowest g h m.accepting
      → m.from ≡ t.from * states_per_node odds + guess_place odds g
      → m.to ≡ t.to * states_per_node odds + guess_place odds h
      → IsMember m (rows odds ts)
  by_guess t m None None at leads f e =
      let is : m ≡ plain_move odds t =
      same_transition m (plain odds t.from) (plain odds t.to) false (omega (arith, f)) (omega (arith, e)) leads
      in
      rows_below-plain (length odds) m
      (subst (λ v. IsMember v (map (plain_move odds) ts)) (sym is) (member-map (plain_move odds) t ts at))
  by_guess t m None (Some d) at leads f e =
      let p = member-place d odds leads.0 in
      let place = guess_place-of odds d a leads.0 in
      rows_below-has (length odds) p.place p.below m
      (member-flat_map (move_at odds p.place) t m ts at
      (inl
      (same_transition m (plain odds t.from) (plain odds t.to + (p.place + 1)) false (omega (arith, f))
      (e ∙ ap (λ v. t.to * states_per_node odds + v) place) leads.1)))
  by_guess t m (Some d) None at leads f e = absurd leads
  by_guess t m (Some d) (Some c) at leads f e =
      let p = member-place d odds leads.1 in
      let place = guess_place-of odds d a leads.1 in
      let place' : guess_place odds (Some c) ≡ p.place + 1 = ap (λ v. guess_place odds (Some v)) leads.0 ∙ place in
      let le : leb (get_or odds p.place 0) t.lowest ≡ true =
      subst (λ v. leb v t.lowest ≡ true) (sym (p.holds 0)) (le-leb d t.lowest leads.2)
      in
      let is : m ≡ kept odds a t p.place =
      same_transition m (plain odds t.from + (p.place + 1)) (plain odds t.to + (p.place + 1))
      (eqb (get_or odds p.place 0) t.lowest)
      (f ∙ ap (λ v. t.from * states_per_node odds + v) place) (e ∙ ap (λ v. t.to * states_per_node odds + v) place')
      (leads.3 ∙ ap (λ v. eqb v t.lowest) (sym (p.holds 0)))
      in
      rows_below-has (length odds) p.place p.below m
      (member-flat_map (move_at odds p.place) t m ts at
      (inr (subst (IsMember m) (sym (cond-true (leb (get_or odds p.place 0) t.lowest) (kept odds a t p.place ∷ []) [] le))
      (inl is))))

  -- the transitions that are made for the triples are their letter
  pub rows-letter : IsLetterOf odds ts (rows odds ts)
  rows-letter m = (
    rows_below-give (length odds) (omega arith) m,
    λ g. by_guess g.0 m g.2.before g.2.behind g.1 g.2.leads g.2.from_is g.2.to_is,
  )

-- ---- letters put together, and in another order

-- the letters of two lists of triples, one behind the other
pub letter-more : (odds : List ℕ) (ts us : List Triple) (l k : List Transition)
    → IsLetterOf odds ts l
    → IsLetterOf odds us k
    → IsLetterOf odds (ts ++ us) (l ++ k)
letter-more odds ts us l k of_ts of_us m =
    (λ i. to (member-append m l k i), λ g. from (member-append g.0 ts us g.1) g.2)
  where
    to : IsMember m l ⊎ IsMember m k → IsGiven odds (ts ++ us) m
    to (inl i) = let g = (of_ts m).0 i in (g.0, member-append_left g.0 ts us g.1, g.2)
    to (inr i) = let g = (of_us m).0 i in (g.0, member-append_right g.0 ts us g.1, g.2)

    from : {t : Triple} → IsMember t ts ⊎ IsMember t us → Gives odds t m → IsMember m (l ++ k)
    from {t} (inl i) g = member-append_left m l k ((of_ts m).1 (t, i, g))
    from {t} (inr i) g = member-append_right m l k ((of_us m).1 (t, i, g))

-- a letter of the first i triples, and behind it what is made for those from the i-th to the j-th one
pub letter-rows : (odds : List ℕ)
    → IsAscending odds
    → (ts us : List Triple) (l k : List Transition) (i j : ℕ)
    → i ≤ j
    → us ≡ ts
    → k ≡ l ++ rows odds (take (j - i) (drop i us))
    → IsLetterOf odds (take i ts) l
    → IsLetterOf odds (take j ts) k
letter-rows odds a ts us l k i j le same is of =
    let next = take (j - i) (drop i ts) in
    let both : take i ts ++ next ≡ take j ts =
    sym (take-add i (j - i) ts) ∙ ap (λ n. take n ts) (let e : i + (j - i) ≡ j = omega arith in e)
    in
    subst (λ v. IsLetterOf odds v k) both
    (subst (IsLetterOf odds (take i ts ++ next)) (sym (is ∙ ap (λ v. l ++ rows odds (take (j - i) (drop i v))) same))
    (letter-more odds (take i ts) next l (rows odds next) of (rows-letter odds a next)))

-- a letter is that of the same triples in whatever order
pub letter-whole : (odds : List ℕ) (ts us : List Triple) (l : List Transition) (n : ℕ)
    → length us ≤ n
    → IsPermutation ts us
    → IsLetterOf odds (take n us) l
    → IsLetterOf odds ts l
letter-whole odds ts us l n all moved of m =
    let whole = subst (λ v. IsLetterOf odds v l) (take_all n us all) of m in (
      λ i. let g = whole.0 i in (g.0, (same_members g.0 ts us moved).0 g.1, g.2),
      λ g. whole.1 (g.0, (same_members g.0 ts us moved).1 g.1, g.2),
    )

-- and is one in whatever order
pub letter-moved : (odds : List ℕ) (ts : List Triple) (l k : List Transition)
    → IsPermutation l k
    → IsLetterOf odds ts l
    → IsLetterOf odds ts k
letter-moved odds ts l k moved of m =
    let kept = same_members m l k moved in
    (λ i. (of m).0 (kept.0 i), λ g. kept.1 ((of m).1 g))

-- all states of both nodes have numbers below 2^30
abbrev RoomOf : List ℕ → Triple → Type 0
RoomOf odds t = HasRoom odds t.from × HasRoom odds t.to

-- a part of the triples has room, in whatever order these are
pub room-part : (odds : List ℕ) (ts us vs : List Triple) (i n : ℕ)
    → AllHaveRoom odds ts
    → IsPermutation ts us
    → vs ≡ us
    → AllHaveRoom odds (take n (drop i vs))
room-part odds ts us vs i n room moved same =
    let all = All-permutation (RoomOf odds) ts us moved room in
    All-take (RoomOf odds) n (drop i vs) (All-drop (RoomOf odds) i vs (subst (AllHaveRoom odds) (sym same) all))

-- ---- ends

-- an end of a node with room, at a place among its states
small_end : (odds : List ℕ) (n j : ℕ) → HasRoom odds n → j ≤ length odds → n * states_per_node odds + j < 2 ^ 30
small_end odds n j room le = omega arith

-- both ends of a transition are below 2^30
abbrev SmallEnds : Transition → Type 0
SmallEnds m = (m.from < 2 ^ 30) × (m.to < 2 ^ 30)

guess_within : (odds : List ℕ) (g h : Option ℕ) (k : ℕ) (b : Bool)
    → IsAscending odds
    → Leads odds k g h b
    → (guess_place odds g ≤ length odds) × (guess_place odds h ≤ length odds)
guess_within odds None None k b a leads = (omega arith, omega arith)
guess_within odds None (Some d) k b a leads =
    let p = member-place d odds leads.0 in
    let at = guess_place-of odds d a leads.0 in
    (omega arith, omega (arith, at, p.below))
guess_within odds (Some d) None k b a leads = absurd leads
guess_within odds (Some d) (Some c) k b a leads =
    let p = member-place d odds leads.1 in
    let at = guess_place-of odds d a leads.1 in
    let at' : guess_place odds (Some c) ≡ p.place + 1 = ap (λ v. guess_place odds (Some v)) leads.0 ∙ at in
    (omega (arith, at, p.below), omega (arith, at', p.below))

gives-small : (odds : List ℕ)
    → IsAscending odds
    → (t : Triple) (m : Transition)
    → HasRoom odds t.from
    → HasRoom odds t.to
    → Gives odds t m
    → SmallEnds m
gives-small odds a t m from to g =
    let w = guess_within odds g.before g.behind t.lowest m.accepting a g.leads in
    let f = small_end odds t.from (guess_place odds g.before) from w.0 in
    let e = small_end odds t.to (guess_place odds g.behind) to w.1 in
    (subst (λ v. v < 2 ^ 30) (sym g.from_is) f, subst (λ v. v < 2 ^ 30) (sym g.to_is) e)

-- the ends of a letter's transitions are below 2^30
pub letter-small : (odds : List ℕ) (ts : List Triple) (letter : List Transition)
    → IsAscending odds
    → AllHaveRoom odds ts
    → IsLetterOf odds ts letter
    → HasSmallEnds letter
letter-small odds ts letter a room of = member-All SmallEnds letter each
  where
    each : (m : Transition) → IsMember m letter → SmallEnds m
    each m i =
        let g = (of m).0 i in
        let r = All-member (RoomOf odds) ts room g.0 g.1 in
        gives-small odds a g.0 m r.0 r.1 g.2
