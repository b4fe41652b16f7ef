-- Letters between two pairs, and steps along arcs.
--
--   joins_here    == a move and a transition that are found join two pairs
--   not_read      == where no transition is found, the move doesn't join them
--   between_more  == one move more by which two pairs aren't joined
--   not_between   == where no move does, no letter joins them
--   joint_between == an arc joins the pairs at its ends
--   step_made     == so a letter that joins them makes a step
--   walk_members  == the arcs of a walk are the graph's
--   lowest_zero   == the lowest priority of an even cycle of arcs that join pairs is 0
--   first_low     == its first arc begins at a pair
--   found_round   == the way to it, and the way round it, make an accepted word
use Rattle.std.proofs.Common.{ℕ, ◌≡◌, ◌↔◌, ◌+◌, ◌%◌, ◌<◌, ◌⊎◌, inl, inr, arith, Bool, true, false, ◌==◌, List, [], ◌∷◌, ◌++◌}
use Rattle.std.proofs.Common.{length, get_or, refl, sym, ap, ◌∙◌, subst, slice_get, IsTrue, Contains, cond, eqb, true≢false}
use Rattle.std.proofs.lemmas.Bool.{cases_Bool, eqb-true}
use Rattle.std.proofs.lemmas.Option.{get_or_from_slice_get, slice_get_within}
use Rattle.ml_lists.specs.Member.{IsMember}
use Rattle.ml_lists.proofs.Entries.{some_entry}
use Rattle.ml_lists.proofs.Member.{member-append}
use Rattle.ml_parity.specs.declared.one_sided.graph.Arc.{Arc}
use Rattle.ml_parity.specs.OneSided.{IsEvenCycle, IsWalk, OneSidedGraph, count_at}
use Rattle.ml_trace.specs.declared.letters.Transition.{Transition}
use Rattle.ml_trace.specs.Run.{in_letter}
use Rattle.ml_emptiness.specs.Emptiness.{IsFound}
use Rattle.ml_emptiness.specs.Systems.{SystemTable, moves_of}
use Rattle.ml_emptiness.specs.private.Pairs.{AreMet, AreStepped, IsJoint, IsStepped, IsWayBetween, Joins, pair, weight}
use Rattle.ml_emptiness.specs.declared.pairs.Origin.{Origin}
use Rattle.ml_emptiness.specs.declared.pairs.Pair.{Pair}
use Rattle.ml_emptiness.specs.declared.systems.Move.{Move}
use Rattle.ml_emptiness.proofs.Stepped.{stepped_accepting}
use Rattle.ml_emptiness.proofs.Ways.{found_on}

module _ (row : List (List Transition)) (s : SystemTable) (x y : Pair) (accepting : Bool) where
  pub joins_here : (m : Move) (letter : List Transition)
      → IsMember m (moves_of s x.state)
      → m.to ≡ y.state
      → letter ≡ get_or row m.letter []
      → in_letter letter x.at y.at accepting
      → Joins row s x m.letter y accepting
  joins_here m letter member to is read = record {
    goes = subst (λ b. IsMember {X = Move} (record { letter = m.letter; to = b }) (moves_of s x.state)) to member;
    is_read = subst (λ us. in_letter us x.at y.at accepting) is read;
  }

  pub not_read : (m : Move) (letter : List Transition) (b : Bool)
      → b ≡ false
      → (IsTrue b ↔ in_letter letter x.at y.at accepting)
      → letter ≡ get_or row m.letter []
      → ¬ (Joins row s x m.letter y accepting)
  not_read m letter b none told is joins =
      true≢false (sym (told.1 (subst (λ us. in_letter us x.at y.at accepting) (sym is) joins.is_read)) ∙ none)

  pub between_more : (m : Move) (done next : List Move)
      → next ≡ done ++ m ∷ []
      → ((n : Move) → IsMember n done → n.to ≡ y.state → ¬ (Joins row s x n.letter y accepting))
      → (m.to ≡ y.state → ¬ (Joins row s x m.letter y accepting))
      → (n : Move) → IsMember n next → n.to ≡ y.state → ¬ (Joins row s x n.letter y accepting)
  between_more m done next is old new n h = by_kind (member-append n done (m ∷ []) (subst (IsMember n) is h))
    where
      by_kind : IsMember n done ⊎ IsMember n (m ∷ []) → n.to ≡ y.state → ¬ (Joins row s x n.letter y accepting)
      by_kind (inl h') to joins = old n h' to joins
      by_kind (inr (inl same)) to joins =
          new (ap (λ (v : Move). v.to) (sym same) ∙ to) (subst (λ (v : Move). Joins row s x v.letter y accepting) same joins)
      by_kind (inr (inr none)) to joins = absurd none

  pub not_between : (done : List Move)
      → done ≡ moves_of s x.state
      → ((n : Move) → IsMember n done → n.to ≡ y.state → ¬ (Joins row s x n.letter y accepting))
      → (l : ℕ) → ¬ (Joins row s x l y accepting)
  not_between done is none l joins =
      none (record { letter = l; to = y.state })
      (subst (IsMember {X = Move} (record { letter = l; to = y.state })) (sym is) joins.goes) refl joins

module _ (row : List (List Transition)) (s : SystemTable) (pairs : List Pair) where
  weighs : (n : ℕ) (accepting : Bool) → n ≡ weight accepting → (n == 0) ≡ accepting
  weighs n true is = ap (λ k. k == 0) is
  weighs n false is = ap (λ k. k == 0) is

  pub joint_between : (a : Arc) (d : Pair) (j : IsJoint row s pairs a)
      → Joins row s (get_or pairs a.from d) j.letter (get_or pairs a.to d) (a.priority == 0)
  joint_between a d j =
      subst (λ x. Joins row s x j.letter (get_or pairs a.to d) (a.priority == 0))
      (sym (get_or_from_slice_get pairs a.from j.source d j.is_source))
      (subst (λ y. Joins row s j.source j.letter y (a.priority == 0))
      (sym (get_or_from_slice_get pairs a.to j.target d j.is_target))
      (subst (Joins row s j.source j.letter j.target) (sym (weighs a.priority j.accepting j.has_weight)) j.joins))

  pub step_made : (a : Arc) (d : Pair) (l : ℕ)
      → IsJoint row s pairs a
      → Joins row s (get_or pairs a.from d) l (get_or pairs a.to d) (a.priority == 0)
      → IsStepped row s pairs a (get_or pairs a.from d).state l
  step_made a d l j joins =
      let from = get_or_from_slice_get pairs a.from j.source d j.is_source in
      let to = get_or_from_slice_get pairs a.to j.target d j.is_target in
      record {
        source = j.source;
        target = j.target;
        is_source = j.is_source;
        is_target = j.is_target;
        from_state = ap (λ (x : Pair). x.state) (sym from);
        accepting = j.accepting;
        has_weight = j.has_weight;
        joins =
            subst (λ x. Joins row s x l j.target j.accepting) from
            (subst (λ y. Joins row s (get_or pairs a.from d) l y j.accepting) to
            (subst (Joins row s (get_or pairs a.from d) l (get_or pairs a.to d))
            (weighs a.priority j.accepting j.has_weight) joins));
      }

  module _ (g : OneSidedGraph) (joint : (a : Arc) → Contains g.arcs a → IsJoint row s pairs a) where
    pub walk_members : (p v : ℕ) (xs : List Arc) (w : ℕ) → IsWalk g p v xs w → (a : Arc) → IsMember a xs → Contains g.arcs a
    walk_members p v [] w walk a h = absurd h
    walk_members p v (b ∷ xs) w walk a (inl is) = subst (Contains g.arcs) (sym is) walk.0.member
    walk_members p v (b ∷ xs) w walk a (inr h) = walk_members p b.to xs w walk.1 a h

    lowest_zero : (p v : ℕ) (xs : List Arc) (w : ℕ) → IsWalk g p v xs w → p % 2 ≡ 0 → 0 < count_at p xs → p ≡ 0
    lowest_zero p v [] w walk even met = absurd (omega (arith, met))
    lowest_zero p v (a ∷ xs) w walk even met =
        by_test (cases_Bool (eqb a.priority p)) (lowest_zero p a.to xs w walk.1 even)
      where
        own : (b : Bool) → a.priority ≡ weight b → a.priority ≡ p → p ≡ 0
        own true is same = sym same ∙ is
        own false is same =
            let one : p ≡ 1 = sym same ∙ is in
            let odd = subst (λ n. n % 2 ≡ 0) one even in
            absurd (omega (arith, odd))

        by_test : (eqb a.priority p ≡ true) ⊎ (eqb a.priority p ≡ false) → (0 < count_at p xs → p ≡ 0) → p ≡ 0
        by_test (inl same) rest =
            let j = joint a walk.0.member in own j.accepting j.has_weight (eqb-true a.priority p same)
        by_test (inr other) rest =
            let more = subst (λ b. 0 < cond b 1 0 + count_at p xs) other met in rest (omega (arith, more))

    pub first_low : (arcs : List Arc) (d : Arc) → IsEvenCycle g arcs → (get_or arcs 0 d).from < length pairs
    first_low [] d cycle = absurd (let m = cycle.met in omega (arith, m))
    first_low (a ∷ arcs) d cycle =
        let j = joint a cycle.leads_back.0.member in slice_get_within pairs a.from j.source j.is_source

    begins_at : (arcs : List Arc) (d : Arc) (cycle : IsEvenCycle g arcs) → (get_or arcs 0 d).from ≡ cycle.begins
    begins_at [] d cycle = absurd (let m = cycle.met in omega (arith, m))
    begins_at (a ∷ arcs) d cycle = cycle.leads_back.0.leaves

    pub found_round : (origins : List Origin) (arcs : List Arc) (d : Arc) (ns ls bs ms : List ℕ)
        → AreMet row s pairs origins
        → IsEvenCycle g arcs
        → IsWayBetween row s pairs 0 ns ls (get_or arcs 0 d).from
        → AreStepped row s pairs arcs bs ms
        → IsFound row s (ns ++ bs) (ls ++ ms) (length ns)
    found_round origins arcs d ns ls bs ms met cycle way stepped =
        let low = first_low arcs d cycle in
        let e = some_entry pairs (get_or arcs 0 d).from low in
        let at = ap (slice_get pairs) (sym (begins_at arcs d cycle)) ∙ e.1 in
        let zero_is = lowest_zero cycle.lowest cycle.begins arcs cycle.begins cycle.leads_back cycle.even cycle.met in
        found_on row s (pair 0 0) e.0 ns ls bs ms refl (way (pair 0 0) e.0 met.begins e.1)
        (stepped_accepting row s pairs g cycle.lowest cycle.begins arcs bs ms cycle.begins e.0 e.0 cycle.leads_back stepped
        at at (subst (λ p. 0 < count_at p arcs) zero_is cycle.met))
