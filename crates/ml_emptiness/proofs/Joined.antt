-- Pairs and arcs while joint moves are added.
--
--   kept_all, kept_more == what is kept twice is kept
--   joint_kept, left_kept == what is true of an arc, and of a pair that is left, stays true
--   begun_partly        == the start alone
--   joined_partly       == one arc more
--   joined_kept         == what stood there stands there still
--   along_none, along_more == the transitions that are joined along a move
--   left_none, left_more == the moves by which a pair is left
--   left_whole          == a pair that is left by all its moves is left
use Rattle.std.proofs.Common.{ℕ, ◌≡◌, ◌+◌, ◌<◌, ◌≤◌, ◌⊎◌, inl, inr, arith, Bool, true, false, if◌then◌else◌, List, [], ◌∷◌, ◌++◌}
use Rattle.std.proofs.Common.{length, get_or, length-append, Some, refl, sym, ap, ◌∙◌, subst, slice_get}
use Rattle.std.proofs.Math.Seq.{get_or-append_seam}
use Rattle.std.proofs.lemmas.Bool.{cases_lt}
use Rattle.std.proofs.lemmas.List.{get_or_append_left}
use Rattle.std.proofs.lemmas.Option.{same_Some, slice_get_within}
use Rattle.ml_lists.specs.Added.{HasOnePlace}
use Rattle.ml_lists.specs.Member.{IsMember}
use Rattle.ml_lists.proofs.Added.{added_keeps, added_once}
use Rattle.ml_lists.proofs.Entries.{some_entry}
use Rattle.ml_lists.proofs.Member.{member-append, member-append_left, member-append_right}
use Rattle.ml_parity.specs.declared.one_sided.graph.Arc.{Arc}
use Rattle.ml_trace.specs.declared.letters.Transition.{Transition}
use Rattle.ml_emptiness.specs.Systems.{SystemTable, moves_of}
use Rattle.ml_emptiness.specs.private.Found.{AreJoined, IsBegun, IsJoined, IsPartlyFound}
use Rattle.ml_emptiness.specs.private.Pairs.{AreJoint, AreKept, IsJoint, IsLeft, IsLeftAlong, IsLeftBy, IsMet, Joins, arc, origin_at, pair}
use Rattle.ml_emptiness.specs.declared.pairs.Origin.{Origin}
use Rattle.ml_emptiness.specs.declared.pairs.Pair.{Pair}
use Rattle.ml_emptiness.specs.declared.pairs.Pairs.{Pairs}
use Rattle.ml_emptiness.specs.declared.systems.Move.{Move}

-- ---- what is kept

pub kept_all : (ps : List Pair) (arcs : List Arc) → AreKept ps arcs ps arcs
kept_all ps arcs = record { keeps_pairs = λ i x at. at; keeps_arcs = λ a m. m }

pub kept_more : (ps : List Pair) (arcs : List Arc) (ps' : List Pair) (arcs' : List Arc) (ps'' : List Pair) (arcs'' : List Arc)
    → AreKept ps arcs ps' arcs'
    → AreKept ps' arcs' ps'' arcs''
    → AreKept ps arcs ps'' arcs''
kept_more ps arcs ps' arcs' ps'' arcs'' one two = record {
  keeps_pairs = λ i x at. two.keeps_pairs i x (one.keeps_pairs i x at);
  keeps_arcs = λ a m. two.keeps_arcs a (one.keeps_arcs a m);
}

-- a pair with a number that stood there
early : (ps : List Pair) (arcs : List Arc) (ps' : List Pair) (arcs' : List Arc)
    → AreKept ps arcs ps' arcs'
    → (j : ℕ) → j < length ps
    → (x : Pair) → slice_get ps' j ≡ Some x
    → slice_get ps j ≡ Some x
early ps arcs ps' arcs' kept j low x at =
    let e = some_entry ps j low in
    let same = same_Some e.0 x (sym (kept.keeps_pairs j e.0 e.1) ∙ at) in
    e.1 ∙ ap Some same

module _ (row : List (List Transition)) (s : SystemTable) where
  pub joint_kept : (ps : List Pair) (arcs : List Arc) (ps' : List Pair) (arcs' : List Arc)
      → AreKept ps arcs ps' arcs'
      → (a : Arc) → IsJoint row s ps a → IsJoint row s ps' a
  joint_kept ps arcs ps' arcs' kept a j = record {
    source = j.source;
    target = j.target;
    is_source = kept.keeps_pairs a.from j.source j.is_source;
    is_target = kept.keeps_pairs a.to j.target j.is_target;
    letter = j.letter;
    accepting = j.accepting;
    has_weight = j.has_weight;
    joins = j.joins;
  }

  pub left_kept : (ps : List Pair) (arcs : List Arc) (ps' : List Pair) (arcs' : List Arc)
      → AreKept ps arcs ps' arcs'
      → (j : ℕ) → j < length ps → IsLeft row s ps arcs j → IsLeft row s ps' arcs' j
  left_kept ps arcs ps' arcs' kept j low left x l y accepting at joins =
      let h = left x l y accepting (early ps arcs ps' arcs' kept j low x at) joins in
      (h.0, kept.keeps_pairs h.0 y h.1, kept.keeps_arcs (arc j accepting h.0) h.2)

  met_kept : (ps : List Pair) (arcs : List Arc) (ps' : List Pair) (arcs' : List Arc)
      → AreKept ps arcs ps' arcs'
      → (o : Origin) (i : ℕ) → IsMet row s ps o i → IsMet row s ps' o i
  met_kept ps arcs ps' arcs' kept o i m = record {
    earlier = m.earlier;
    source = m.source;
    target = m.target;
    is_source = kept.keeps_pairs o.from m.source m.is_source;
    is_target = kept.keeps_pairs i m.target m.is_target;
    accepting = m.accepting;
    joins = m.joins;
  }

  pub begun_partly : (f : Pairs) → IsBegun f → IsPartlyFound row s f 0
  begun_partly f b = record {
    met = record {
      begins = ap (λ ps. slice_get ps 0) b.pairs_are;
      an_origin_each = ap length b.origins_are ∙ sym (ap length b.pairs_are);
      are_met = λ i some low. absurd (let e = ap length b.pairs_are in omega arith);
    };
    once = subst HasOnePlace (sym b.pairs_are) alone;
    are_joint = λ a m. absurd (subst (IsMember a) b.arcs_are m);
    are_left = λ j low. absurd (omega (arith, low));
  }
    where
      alone : HasOnePlace (pair 0 0 ∷ [])
      alone i j x at_i at_j =
          let a = slice_get_within (pair 0 0 ∷ []) i x at_i in
          let b = slice_get_within (pair 0 0 ∷ []) j x at_j in
          omega arith

  -- ---- one arc more

  pub joined_kept : (k : ℕ) (m : Move) (t : Transition) (f f' : Pairs)
      → IsJoined k m t f f'
      → AreKept f.pairs.keys f.arcs.items f'.pairs.keys f'.arcs.items
  joined_kept k m t f f' j = record {
    keeps_pairs = λ i x at. added_keeps f.pairs.keys f'.pairs.keys (pair m.to t.to) j.to j.numbered.added i x at;
    keeps_arcs = λ a h.
        subst (IsMember a) (sym j.arcs_are) (member-append_left a f.arcs.items (arc k t.accepting j.to ∷ []) h);
  }

  module _ (k : ℕ) (x : Pair) (m : Move) (t : Transition) (f f' : Pairs) (partly : IsPartlyFound row s f k)
      (at : slice_get f.pairs.keys k ≡ Some x) (joins : Joins row s x m.letter (pair m.to t.to) t.accepting)
      (j : IsJoined k m t f f') where
    kept : AreKept f.pairs.keys f.arcs.items f'.pairs.keys f'.arcs.items
    kept = joined_kept k m t f f' j

    low : k < length f.pairs.keys
    low = slice_get_within f.pairs.keys k x at

    origins_long : (b : Bool) → j.is_new ≡ b → length f'.origins.items ≡ length f'.pairs.keys
    origins_long true is =
        let o = ap length (j.origins_are
        ∙ ap (λ (c : Bool). f.origins.items ++ (if c then record { from = k; letter = m.letter } ∷ [] else [])) is)
        ∙ length-append f.origins.items (record { from = k; letter = m.letter } ∷ []) in
        let p = j.numbered.longer ∙ ap (λ (c : Bool). length f.pairs.keys + (if c then 1 else 0)) is in
        let e = partly.met.an_origin_each in
        omega arith
    origins_long false is =
        let o = ap length (j.origins_are
        ∙ ap (λ (c : Bool). f.origins.items ++ (if c then record { from = k; letter = m.letter } ∷ [] else [])) is)
        ∙ length-append f.origins.items [] in
        let p = j.numbered.longer ∙ ap (λ (c : Bool). length f.pairs.keys + (if c then 1 else 0)) is in
        let e = partly.met.an_origin_each in
        omega arith

    -- the pair that is new stands at the end
    new_at : (i : ℕ) → length f.pairs.keys ≤ i → i < length f'.pairs.keys
        → slice_get f'.pairs.keys i ≡ Some (pair m.to t.to)
    new_at i high within = by_kind j.numbered.added.grown
      where
        at_end : (ps : List Pair) (y : Pair) → slice_get (ps ++ y ∷ []) (length ps) ≡ Some y
        at_end [] y = refl
        at_end (p ∷ ps) y = at_end ps y

        by_kind : (f'.pairs.keys ≡ f.pairs.keys)
            ⊎ ((f'.pairs.keys ≡ f.pairs.keys ++ pair m.to t.to ∷ []) × ¬ (IsMember (pair m.to t.to) f.pairs.keys))
            → slice_get f'.pairs.keys i ≡ Some (pair m.to t.to)
        by_kind (inl old) = let e = ap length old in absurd (omega arith)
        by_kind (inr new) =
            let e = ap length new.0 ∙ length-append f.pairs.keys (pair m.to t.to ∷ []) in
            let is : i ≡ length f.pairs.keys = omega arith in
            ap (λ n. slice_get f'.pairs.keys n) is
            ∙ ap (λ ps. slice_get ps (length f.pairs.keys)) new.0
            ∙ at_end f.pairs.keys (pair m.to t.to)

    met_more : (i : ℕ) → 0 < i → i < length f'.pairs.keys → IsMet row s f'.pairs.keys (origin_at f'.origins.items i) i
    met_more i some within = by_place (cases_lt i (length f.pairs.keys))
      where
        start : Origin
        start = record { from = 0; letter = 0 }

        is_new : (b : Bool) → j.is_new ≡ b → length f.pairs.keys ≤ i → j.is_new ≡ true
        is_new true is high = is
        is_new false is high =
            let p = j.numbered.longer ∙ ap (λ (c : Bool). length f.pairs.keys + (if c then 1 else 0)) is in
            absurd (omega arith)

        new_origin : length f.pairs.keys ≤ i → origin_at f'.origins.items i ≡ record { from = k; letter = m.letter }
        new_origin high =
            let new = is_new j.is_new refl high in
            let e = j.origins_are
            ∙ ap (λ (c : Bool). f.origins.items ++ (if c then record { from = k; letter = m.letter } ∷ [] else [])) new in
            let p = j.numbered.longer ∙ ap (λ (c : Bool). length f.pairs.keys + (if c then 1 else 0)) new in
            let is : i ≡ length f.origins.items = let o = partly.met.an_origin_each in omega arith in
            ap (λ n. get_or f'.origins.items n (record { from = 0; letter = 0 })) is
            ∙ ap (λ os. get_or os (length f.origins.items) (record { from = 0; letter = 0 })) e
            ∙ get_or-append_seam f.origins.items (record { from = k; letter = m.letter }) [] (record { from = 0; letter = 0 })

        old_origin : (b : Bool) → j.is_new ≡ b → i < length f.pairs.keys
            → origin_at f'.origins.items i ≡ origin_at f.origins.items i
        old_origin b is early_i =
            ap (λ os. get_or os i (record { from = 0; letter = 0 })) j.origins_are
            ∙ get_or_append_left f.origins.items (if j.is_new then record { from = k; letter = m.letter } ∷ [] else [])
            (record { from = 0; letter = 0 }) i (let o = partly.met.an_origin_each in omega arith)

        by_place : (i < length f.pairs.keys) ⊎ (length f.pairs.keys ≤ i)
            → IsMet row s f'.pairs.keys (origin_at f'.origins.items i) i
        by_place (inl early_i) =
            subst (λ o. IsMet row s f'.pairs.keys o i) (sym (old_origin j.is_new refl early_i))
            (met_kept f.pairs.keys f.arcs.items f'.pairs.keys f'.arcs.items kept (origin_at f.origins.items i) i
            (partly.met.are_met i some early_i))
        by_place (inr high) =
            subst (λ o. IsMet row s f'.pairs.keys o i) (sym (new_origin high))
            (record {
              earlier = let l = low in omega arith;
              source = x;
              target = pair m.to t.to;
              is_source = kept.keeps_pairs k x at;
              is_target = new_at i high within;
              accepting = t.accepting;
              joins = joins;
            })

    pub joined_partly : IsPartlyFound row s f' k
    joined_partly = record {
      met = record {
        begins = kept.keeps_pairs 0 (pair 0 0) partly.met.begins;
        an_origin_each = origins_long j.is_new refl;
        are_met = met_more;
      };
      once = added_once f.pairs.keys f'.pairs.keys (pair m.to t.to) j.to j.numbered.added partly.once;
      are_joint = λ a h. by_kind a
          (member-append a f.arcs.items (arc k t.accepting j.to ∷ []) (subst (IsMember a) j.arcs_are h));
      are_left = λ i before.
          left_kept f.pairs.keys f.arcs.items f'.pairs.keys f'.arcs.items kept i (let l = low in omega arith)
          (partly.are_left i before);
    }
      where
        new : IsJoint row s f'.pairs.keys (arc k t.accepting j.to)
        new = record {
          source = x;
          target = pair m.to t.to;
          is_source = kept.keeps_pairs k x at;
          is_target = j.numbered.added.stands;
          letter = m.letter;
          accepting = t.accepting;
          has_weight = refl;
          joins = joins;
        }

        by_kind : (a : Arc) → IsMember a f.arcs.items ⊎ IsMember a (arc k t.accepting j.to ∷ []) → IsJoint row s f'.pairs.keys a
        by_kind a (inl old) = joint_kept f.pairs.keys f.arcs.items f'.pairs.keys f'.arcs.items kept a (partly.are_joint a old)
        by_kind a (inr (inl is)) = subst (IsJoint row s f'.pairs.keys) (sym is) new
        by_kind a (inr (inr none)) = absurd none

-- ---- along moves

pub along_none : (ps : List Pair) (arcs : List Arc) (k : ℕ) (m : Move) → IsLeftAlong ps arcs k m []
along_none ps arcs k m t h = absurd h

along_kept : (ps : List Pair) (arcs : List Arc) (ps' : List Pair) (arcs' : List Arc) (k : ℕ) (m : Move) (ts : List Transition)
    → AreKept ps arcs ps' arcs'
    → IsLeftAlong ps arcs k m ts
    → IsLeftAlong ps' arcs' k m ts
along_kept ps arcs ps' arcs' k m ts kept left t h =
    let l = left t h in
    (l.0, kept.keeps_pairs l.0 (pair m.to t.to) l.1, kept.keeps_arcs (arc k t.accepting l.0) l.2)

pub along_more : (k : ℕ) (m : Move) (t : Transition) (ts : List Transition) (f f' : Pairs)
    → IsLeftAlong f.pairs.keys f.arcs.items k m ts
    → IsJoined k m t f f'
    → IsLeftAlong f'.pairs.keys f'.arcs.items k m (ts ++ t ∷ [])
along_more k m t ts f f' left j u h = by_kind (member-append u ts (t ∷ []) h)
  where
    by_kind : IsMember u ts ⊎ IsMember u (t ∷ [])
        → (i : ℕ) × (slice_get f'.pairs.keys i ≡ Some (pair m.to u.to)) × IsMember (arc k u.accepting i) f'.arcs.items
    by_kind (inl old) =
        along_kept f.pairs.keys f.arcs.items f'.pairs.keys f'.arcs.items k m ts (joined_kept [] [] k m t f f' j) left u old
    by_kind (inr (inl is)) =
        subst (λ (v : Transition). (i : ℕ) × (slice_get f'.pairs.keys i ≡ Some (pair m.to v.to)) × IsMember (arc k v.accepting i) f'.arcs.items)
        (sym is) (
          j.to,
          j.numbered.added.stands,
          subst (IsMember (arc k t.accepting j.to)) (sym j.arcs_are)
              (member-append_right (arc k t.accepting j.to) f.arcs.items (arc k t.accepting j.to ∷ []) (inl refl)),
        )
    by_kind (inr (inr none)) = absurd none

module _ (row : List (List Transition)) (s : SystemTable) where
  pub left_none : (ps : List Pair) (arcs : List Arc) (k : ℕ) (x : Pair) → IsLeftBy row ps arcs k x []
  left_none ps arcs k x m y accepting h = absurd h

  pub left_more : (k : ℕ) (x : Pair) (ms : List Move) (m : Move) (ts : List Transition) (f f' : Pairs)
      → AreJoint row s x m ts
      → IsLeftBy row f.pairs.keys f.arcs.items k x ms
      → AreJoined k m ts f f'
      → IsLeftBy row f'.pairs.keys f'.arcs.items k x (ms ++ m ∷ [])
  left_more k x ms m ts f f' joint left j n y accepting h leads is_read = by_kind (member-append n ms (m ∷ []) h)
    where
      old : IsMember n ms → (i : ℕ) × (slice_get f'.pairs.keys i ≡ Some y) × IsMember (arc k accepting i) f'.arcs.items
      old h' =
          let l = left n y accepting h' leads is_read in
          (l.0, j.kept.keeps_pairs l.0 y l.1, j.kept.keeps_arcs (arc k accepting l.0) l.2)

      new : n ≡ m → (i : ℕ) × (slice_get f'.pairs.keys i ≡ Some y) × IsMember (arc k accepting i) f'.arcs.items
      new is =
          let t : Transition = record { from = x.at; to = y.at; accepting = accepting } in
          let h' = (joint.1 t).1 (subst (λ (v : Move). IsMember t (get_or row v.letter [])) is is_read, refl) in
          let l = j.along t h' in
          (l.0, l.1 ∙ ap (λ a. Some (pair a y.at)) (ap (λ (v : Move). v.to) (sym is) ∙ leads), l.2)

      by_kind : IsMember n ms ⊎ IsMember n (m ∷ []) → (i : ℕ) × (slice_get f'.pairs.keys i ≡ Some y) × IsMember (arc k accepting i) f'.arcs.items
      by_kind (inl h') = old h'
      by_kind (inr (inl is)) = new is
      by_kind (inr (inr none)) = absurd none

  pub left_whole : (k : ℕ) (x : Pair) (f : Pairs)
      → slice_get f.pairs.keys k ≡ Some x
      → IsPartlyFound row s f k
      → IsLeftBy row f.pairs.keys f.arcs.items k x (moves_of s x.state)
      → IsPartlyFound row s f (k + 1)
  left_whole k x f at partly left = record {
    met = partly.met;
    once = partly.once;
    are_joint = partly.are_joint;
    are_left = λ j low. by_place j (cases_lt j k) low;
  }
    where
      here : IsLeft row s f.pairs.keys f.arcs.items k
      here z l y accepting at_z joins =
          let e : z ≡ x = same_Some z x (sym at_z ∙ at) in
          let j = subst (λ v. Joins row s v l y accepting) e joins in
          left (record { letter = l; to = y.state }) y accepting j.goes refl j.is_read

      by_place : (j : ℕ) → (j < k) ⊎ (k ≤ j) → j < k + 1 → IsLeft row s f.pairs.keys f.arcs.items j
      by_place j (inl before) low = partly.are_left j before
      by_place j (inr high) low =
          let is : k ≡ j = omega arith in subst (IsLeft row s f.pairs.keys f.arcs.items) is here
