-- The triples of a step.
--
--   exits_more      == the triples of one place more
--   found_traces    == the triples of what a search from a node found are the local walks that lead out
--   traces_more     == the triples from one node more
--   exit_leads, leads_exit == to lead out along a diamond, as the program tells it and as the step says it
--   sequent_low     == the nodes of a sequent that has a spread are nodes
--   diamond_of      == a node that passes the test is a diamond
--   trace_told, told_trace == a local walk from a node of the sequent that leads out is a trace, and the other way round
--   step_is         == such triples and their targets are a step
--   leading_more, leading_same == where the nodes of a list lead out, with one more
--   targets_are, targets_told == the nodes to which those of the spread lead out are the targets
--   traces_are_from, along_from == and the triples from some nodes of the sequent are the traces that begin there
--   step_of         == the targets, with the traces from all nodes of the sequent, are a step
--   lone_traces     == where a node leads to the nodes of a list alone, and no priority is below its own, their exits are its
--                      traces
--   lone_ok         == so they are where a sequent is one node
use Rattle.std.proofs.Common.{ℕ, ◌≡◌, ◌+◌, ◌<◌, ◌≤◌, ◌⊎◌, inl, inr, ⊎_elim, ◌↔◌, ◌==◌, min, true, List, [], ◌∷◌, ◌++◌, map, length}
use Rattle.std.proofs.Common.{get_or, take, Option, Some, None, refl, sym, ap, ◌∙◌, subst, arith, append_assoc, append-nil, All, Result, Ok, Err, IfOk}
use Rattle.std.specs.Global.{Vec}
use Rattle.std.specs.List.{flat_map, filter_map, cons_option}
use Rattle.std.proofs.lemmas.Bool.{eqb-true, cond-true}
use Rattle.std.proofs.lemmas.Bool.Decides.{nat_tests}
use Rattle.std.proofs.lemmas.List.{take_more}
use Rattle.std.proofs.lemmas.List.Concat.{flat_map-append}
use Rattle.std.proofs.lemmas.List.Elements.{filter_map-append}
use Rattle.std.proofs.lemmas.Option.{cond_some}
use Rattle.ml_lists.specs.Ascending.{IsAscending, ascending}
use Rattle.ml_lists.specs.Member.{IsMember}
use Rattle.ml_lists.proofs.Ascending.{ascending-is, ascending-member, member-ascending}
use Rattle.ml_lists.proofs.Member.{All-member, InList, Image, member-append, member-append_left, member-append_right, member-flat_map, member-flat_map_from, member-map, member-map_from}
use Rattle.ml_graph.specs.declared.node.Node.{Node}
use Rattle.ml_graph.specs.declared.node.Node.TheVariants as node
use Rattle.ml_graph.specs.Graph.{Graph, IsGraph, size, node_at, priority_at}
use Rattle.ml_trace.specs.declared.letters.Triple.{Triple}
use Rattle.ml_sequent.specs.declared.choice.Side.{Side}
use Rattle.ml_sequent.specs.declared.reach.Visit.{Visit}
use Rattle.ml_sequent.specs.LocalWalk.{LocalWalk, stays, InSpread}
use Rattle.ml_sequent.specs.Spread.{SpreadList, IsSpreadOf, is_diamond}
use Rattle.ml_sequent.specs.Step.{IsDiamondOf, LeadsOut, IsTarget, IsTrace, IsStep}
use Rattle.ml_sequent.specs.private.Exits.{exit_of, exit_at, exits, triple_to, triples_to, action_of, IsTraceFrom, AreTracesFrom}
use Rattle.ml_sequent.specs.private.Trails.{spread_at}
use Rattle.ml_sequent.specs.private.Reach.{Leads, IsReached, onward, ranked, LevelList, IsRanked, HasReached}
use Rattle.ml_sequent.proofs.LocalWalks.{walk_low}
use Rattle.ml_sequent.proofs.RankedWalks as walks
use Rattle.ml_sequent.proofs.RankedWalks.{level_order}

-- the triples of one place more
pub exits_more : (f : Visit → List Triple) (found : List Visit) (i : ℕ) (d : Visit) (old traces : List Triple)
    → i < length found
    → traces ≡ old ++ flat_map f (take i found)
    → traces ++ f (get_or found i d) ≡ old ++ flat_map f (take (i + 1) found)
exits_more f found i d old traces low before =
    ap (λ xs. xs ++ f (get_or found i d)) before
    ∙ append_assoc old (flat_map f (take i found)) (f (get_or found i d))
    ∙ ap (λ xs. old ++ xs) (sym (ap (flat_map f) (take_more found i d low)
    ∙ flat_map-append f (take i found) (get_or found i d ∷ [])
    ∙ ap (λ xs. flat_map f (take i found) ++ xs) (append-nil (f (get_or found i d)))))

-- what a place gives
record Given (from lowest : ℕ) (o : Option ℕ) (t : Triple) : Type 0 where
  pub from_is : t.from ≡ from
  pub lowest_is : t.lowest ≡ lowest
  pub leads : o ≡ Some t.to

given : (from lowest : ℕ) (o : Option ℕ) (t : Triple) → IsMember t (triple_to from lowest o) → Given from lowest o t
given from lowest None t h = absurd h
given from lowest (Some m) t (inl e) = record {
  from_is = ap (λ (x : Triple). x.from) e;
  lowest_is = ap (λ (x : Triple). x.lowest) e;
  leads = ap (λ (k : ℕ). Some k) (sym (ap (λ (x : Triple). x.to) e));
}
given from lowest (Some m) t (inr none) = absurd none

gives : (from lowest : ℕ) (o : Option ℕ) (t : Triple) → Given from lowest o t → IsMember t (triple_to from lowest o)
gives from lowest o t w =
    let from_is = w.from_is in
    let lowest_is = w.lowest_is in
    subst (λ p. IsMember t (triple_to from lowest p)) (sym w.leads)
    (inl (λ i. record { from = from_is i; lowest = lowest_is i; to = t.to }))

module _ (g : Graph) (c : List (ℕ × Side)) (levels : LevelList) (ok : IsGraph g) (is : IsRanked g levels)
    (a d : ℕ) where
  -- the triples of what a search from a node found are the local walks from it that lead out
  pub found_traces : (n : ℕ) (found : List Visit) → n < size g
      → HasReached (onward g c levels.ranks) (ranked levels.ranks n ∷ []) found
      → (t : Triple)
      → IsMember t (flat_map (exits g levels.priorities a d n) found) ↔ ((t.from ≡ n) × IsTraceFrom g c a d t)
  found_traces n found low has t = (
    (λ h. of_place (member-flat_map_from (exits g levels.priorities a d n) t found h)),
    (λ h. of_trace h.0 h.1),
  )
    where
      of_way : (v : Visit) → Given n (get_or levels.priorities v.rank 0) (exit_of a d v.node (node_at g v.node)) t
          → walks.Traced g c levels ok is (ranked levels.ranks n) v
          → (t.from ≡ n) × IsTraceFrom g c a d t
      of_way v w r =
          let below = walk_low g c n (get_or levels.priorities r.rank 0) v.node r.walk in
          let order =
          level_order levels.priorities r.rank (get_or levels.ranks n 0) is.ascends r.low (is.low n low)
          (omega (arith, is.right n low))
          in
          let rank_is : r.rank ≡ v.rank = omega (arith, r.holds) in
          let lowest_is : get_or levels.priorities r.rank 0 ≡ t.lowest =
          ap (λ k. get_or levels.priorities k 0) rank_is ∙ sym w.lowest_is in (
            w.from_is,
            record {
              leaving = v.node;
              walk =
                  subst (λ k. LocalWalk g c t.from k v.node) lowest_is
                  (subst (λ k. LocalWalk g c k (get_or levels.priorities r.rank 0) v.node) (sym w.from_is) r.walk);
              leads = w.leads;
            },
          )

      of_reached : (v : Visit) → Given n (get_or levels.priorities v.rank 0) (exit_of a d v.node (node_at g v.node)) t
          → IsReached (onward g c levels.ranks) (ranked levels.ranks n ∷ []) v
          → (t.from ≡ n) × IsTraceFrom g c a d t
      of_reached v w r = ⊎_elim
          (λ (e : r.from ≡ ranked levels.ranks n).
          of_way v w
          (walks.traced g c levels ok is (ranked levels.ranks n) v low (omega arith)
          (subst (λ u. Leads (onward g c levels.ranks) u v) e r.way)))
          (λ (none : IsMember r.from []). absurd none)
          r.member

      of_place : InList (exits g levels.priorities a d n) t found → (t.from ≡ n) × IsTraceFrom g c a d t
      of_place p =
          of_reached p.from
          (given n (get_or levels.priorities p.from.rank 0) (exit_of a d p.from.node (node_at g p.from.node)) t
          p.inside)
          ((has p.from).0 p.member)

      of_ranked : t.from ≡ n → (w : IsTraceFrom g c a d t) → walks.Ranked g c levels ok is n t.lowest w.leaving
          → LocalWalk g c n t.lowest w.leaving
          → IsMember t (flat_map (exits g levels.priorities a d n) found)
      of_ranked from w r walk =
          let below = walk_low g c n t.lowest w.leaving walk in
          let order =
          level_order levels.priorities r.rank (get_or levels.ranks n 0) is.ascends r.low (is.low n low)
          (omega (arith, is.right n low, r.holds))
          in
          let v : Visit = record { node = w.leaving; rank = min (get_or levels.ranks n 0) r.rank } in
          let rank_is : r.rank ≡ min (get_or levels.ranks n 0) r.rank = omega arith in
          let lowest_is : t.lowest ≡ get_or levels.priorities (min (get_or levels.ranks n 0) r.rank) 0 =
          sym r.holds ∙ ap (λ k. get_or levels.priorities k 0) rank_is
          in
          let member =
          (has v).1 (record {
            from = ranked levels.ranks n;
            member = inl refl;
            way = r.way (get_or levels.ranks n 0) (omega arith);
          }) in
          member-flat_map (exits g levels.priorities a d n) v t found member
          (gives n (get_or levels.priorities v.rank 0) (exit_of a d v.node (node_at g v.node)) t
          (record { from_is = from; lowest_is = lowest_is; leads = w.leads }))

      of_trace : t.from ≡ n → IsTraceFrom g c a d t → IsMember t (flat_map (exits g levels.priorities a d n) found)
      of_trace from w =
          let walk = subst (λ k. LocalWalk g c k t.lowest w.leaving) from w.walk in
          of_ranked from w (walks.ranked g c levels ok is n t.lowest w.leaving low walk) walk

  -- the triples from one node more
  pub traces_more : (nodes : List ℕ) (i : ℕ) (found : List Visit) (traces traces2 : List Triple) → i < length nodes
      → get_or nodes i 0 < size g
      → HasReached (onward g c levels.ranks) (ranked levels.ranks (get_or nodes i 0) ∷ []) found
      → traces2 ≡ traces ++ flat_map (exits g levels.priorities a d (get_or nodes i 0)) found
      → ((t : Triple) → IsMember t traces ↔ (IsMember t.from (take i nodes) × IsTraceFrom g c a d t))
      → (t : Triple) → IsMember t traces2 ↔ (IsMember t.from (take (i + 1) nodes) × IsTraceFrom g c a d t)
  traces_more nodes i found traces traces2 low node_low has more before t = (
    (λ h. of_member (member-append t traces (flat_map (exits g levels.priorities a d (get_or nodes i 0)) found)
        (subst (IsMember t) more h))),
    (λ h. subst (IsMember t) (sym more)
        (of_trace h.1
        (member-append t.from (take i nodes) (get_or nodes i 0 ∷ [])
        (subst (IsMember t.from) (take_more nodes i 0 low) h.0)))),
  )
    where
      here : IsMember t (flat_map (exits g levels.priorities a d (get_or nodes i 0))
          found) ↔ ((t.from ≡ get_or nodes i 0) × IsTraceFrom g c a d t)
      here = found_traces (get_or nodes i 0) found node_low has t

      longer : IsMember t.from (take i nodes ++ get_or nodes i 0 ∷ []) → IsMember t.from (take (i + 1) nodes)
      longer h = subst (IsMember t.from) (sym (take_more nodes i 0 low)) h

      of_member : IsMember t traces ⊎ IsMember t (flat_map (exits g levels.priorities a d (get_or nodes i 0)) found)
          → IsMember t.from (take (i + 1) nodes) × IsTraceFrom g c a d t
      of_member (inl old) = let o = (before t).0 old in
          (longer (member-append_left t.from (take i nodes) (get_or nodes i 0 ∷ []) o.0), o.1)
      of_member (inr new) = let o = here.0 new in
          (longer (member-append_right t.from (take i nodes) (get_or nodes i 0 ∷ []) (inl o.0)), o.1)

      of_trace : IsTraceFrom g c a d t → IsMember t.from (take i nodes) ⊎ IsMember t.from (get_or nodes i 0 ∷ [])
          → IsMember t (traces ++ flat_map (exits g levels.priorities a d (get_or nodes i 0)) found)
      of_trace w (inl earlier) =
          member-append_left t traces (flat_map (exits g levels.priorities a d (get_or nodes i 0)) found)
          ((before t).1 (earlier, w))
      of_trace w (inr (inl e)) =
          member-append_right t traces (flat_map (exits g levels.priorities a d (get_or nodes i 0)) found)
          (here.1 (e, w))
      of_trace w (inr (inr none)) = absurd none

-- ---- leading out

same_test : (k : ℕ) → (k == k) ≡ true
same_test k = grind (arith, nat_tests)

module _ (g : Graph) (sp : SpreadList) (a d child : ℕ) (is : node_at g d ≡ node.Diamond a child) where
  -- what the program tells of a node of the spread
  pub exit_leads : (e m : ℕ) → IsMember e sp.nodes → exit_of a d e (node_at g e) ≡ Some m → LeadsOut g sp d e m
  exit_leads e m member leads = of_node (node_at g e) refl leads
    where
      out : ((e ≡ d) × (m ≡ child)) ⊎ (IsMember e sp.nodes × (node_at g e ≡ node.Square a m)) → LeadsOut g sp d e m
      out leaves = record { action = a; child = child; is_diamond = is; leaves = leaves }

      of_diamond : (b to : ℕ) → node_at g e ≡ node.Diamond b to → e ≡ d → to ≡ m → m ≡ child
      of_diamond b to here same found =
          let both : node.Diamond b to ≡ node.Diamond a child = sym here ∙ ap (node_at g) same ∙ is in
          let children_are : to ≡ child = cc in
          sym found ∙ children_are

      of_node : (x : Node) → node_at g e ≡ x → exit_of a d e x ≡ Some m → LeadsOut g sp d e m
      of_node node.True here h = absurd (cc)
      of_node node.False here h = absurd (cc)
      of_node (node.Lit p positive) here h = absurd (cc)
      of_node (node.And l r) here h = absurd (cc)
      of_node (node.Or l r) here h = absurd (cc)
      of_node (node.Diamond b to) here h =
          let t = cond_some (e == d) to m h in
          let same = eqb-true e d t.0 in
          out (inl (same, of_diamond b to here same t.1))
      of_node (node.Square b to) here h =
          let t = cond_some (b == a) to m h in
          let same = eqb-true b a t.0 in
          let found = t.1 in
          out (inr (member, here ∙ (λ i. node.Square (same i) (found i))))

  -- and the other way round
  pub leads_exit : (e m : ℕ) → LeadsOut g sp d e m → exit_of a d e (node_at g e) ≡ Some m
  leads_exit e m l =
      let both : node.Diamond a child ≡ node.Diamond l.action l.child = sym is ∙ l.is_diamond in
      let actions : a ≡ l.action = cc in
      let children_are : child ≡ l.child = cc in
      ⊎_elim
      (λ (own : (e ≡ d) × (m ≡ l.child)).
      ap (exit_of a d e) (ap (node_at g) own.0 ∙ is)
      ∙ cond-true (e == d) (Some child) None (subst (λ k. (e == k) ≡ true) own.0 (same_test e))
      ∙ ap (λ (k : ℕ). Some k) (children_are ∙ sym own.1))
      (λ (square : IsMember e sp.nodes × (node_at g e ≡ node.Square l.action m)).
      ap (exit_of a d e) square.1
      ∙ cond-true (l.action == a) (Some m) None
      (subst (λ k. (l.action == k) ≡ true) (sym actions) (same_test l.action)))
      l.leaves

-- a diamond node is one of its action
record Diamonds (x : Node) : Type 0 where
  pub child : ℕ
  pub holds : x ≡ node.Diamond (action_of x) child

diamond_is : (x : Node) → is_diamond x ≡ true → Diamonds x
diamond_is node.True e = absurd (cc)
diamond_is node.False e = absurd (cc)
diamond_is (node.Lit p positive) e = absurd (cc)
diamond_is (node.And l r) e = absurd (cc)
diamond_is (node.Or l r) e = absurd (cc)
diamond_is (node.Diamond a to) e = record { child = to; holds = refl }
diamond_is (node.Square a to) e = absurd (cc)

pub diamond_of : (x : Node) → is_diamond x ≡ true → (a : ℕ) × ((to : ℕ) × (x ≡ node.Diamond a to))
diamond_of x is = let d = diamond_is x is in (action_of x, (d.child, d.holds))

-- ---- traces

module _ (g : Graph) (C : List ℕ) (sp : SpreadList) (d : ℕ) (of : IsSpreadOf g C sp.choice sp)
    (diamond : IsDiamondOf g sp d) where
  abbrev action : ℕ
  action = action_of (node_at g d)

  -- a local walk from a node of the sequent that leads out is a trace
  pub trace_told : (t : Triple) → IsMember t.from C → IsTraceFrom g sp.choice (action_of (node_at g d)) d t
      → IsTrace g C sp d t
  trace_told t h w =
      let x = diamond_is (node_at g d) diamond.holds in
      let reached = (of.nodes w.leaving).1 (record { from = t.from; member = h; lowest = t.lowest; walk = w.walk }) in
      record {
        from = h;
        leaving = w.leaving;
        walk = w.walk;
        leads = exit_leads g sp action d x.child x.holds w.leaving t.to reached w.leads;
      }

  -- and the other way round
  pub told_trace : (t : Triple) → IsTrace g C sp d t → IsTraceFrom g sp.choice (action_of (node_at g d)) d t
  told_trace t w =
      let x = diamond_is (node_at g d) diamond.holds in
      record {
        leaving = w.leaving;
        walk = w.walk;
        leads = leads_exit g sp action d x.child x.holds w.leaving t.to w.leads;
      }

  -- the triples from some nodes of the sequent are the traces that begin there
  pub traces_are_from : (nodes : List ℕ) (traces : List Triple)
      → All (λ n. IsMember n C) nodes
      → AreTracesFrom g sp.choice d nodes traces
      → (t : Triple)
      → IsMember t traces ↔ (IsMember t.from nodes × IsTrace g C sp d t)
  traces_are_from nodes traces inside are t = (
    λ h. let w = (are t).0 h in
        (w.0, trace_told t (All-member (λ n. IsMember n C) nodes inside t.from w.0) w.1),
    λ w. (are t).1 (w.0, told_trace t w.1),
  )

-- such triples and their targets are a step
pub step_is : (g : Graph) (C : List ℕ) (sp : SpreadList) (d : ℕ) (next : List ℕ) (made : List Triple)
    → IsSpreadOf g C sp.choice sp
    → IsDiamondOf g sp d
    → next ≡ ascending (map (λ (t : Triple). t.to) made)
    → AreTracesFrom g sp.choice d C made
    → IsStep g C sp d next made
step_is g C sp d next made of diamond next_is traces_are = by_child (diamond_is (node_at g d) diamond.holds)
  where
    by_child : Diamonds (node_at g d) → IsStep g C sp d next made
    by_child x = record {
      ascends = subst IsAscending (sym next_is) (ascending-is (map (λ (t : Triple). t.to) made));
      targets = λ m. (
        (λ h. of_image m
            (member-map_from (λ (t : Triple). t.to) m made
            (ascending-member m (map (λ (t : Triple). t.to) made) (subst (IsMember m) next_is h)))),
        (λ h. of_target m h.leaving h.leads (in_spread h.leaving m h.leads)),
      );
      traces = λ t. (
        (λ h. let w = (traces_are t).0 h in trace_told g C sp d of diamond t w.0 w.1),
        (λ w. (traces_are t).1 (w.from, told_trace g C sp d of diamond t w)),
      );
    }
      where
        of_image : (m : ℕ) → Image (λ (t : Triple). t.to) m made → IsTarget g sp d m
        of_image m i =
            let both = (traces_are i.from).0 i.member in
            let w = trace_told g C sp d of diamond i.from both.0 both.1 in
            record { leaving = w.leaving; leads = subst (LeadsOut g sp d w.leaving) (sym i.holds) w.leads }

        in_spread : (e m : ℕ) → LeadsOut g sp d e m → InSpread g sp.choice C e
        in_spread e m l = (of.nodes e).0 (⊎_elim
            (λ (own : (e ≡ d) × (m ≡ l.child)). subst (λ k. IsMember k sp.nodes) (sym own.0) diamond.member)
            (λ (square : IsMember e sp.nodes × (node_at g e ≡ node.Square l.action m)). square.0)
            l.leaves)

        of_target : (m e : ℕ) → LeadsOut g sp d e m → InSpread g sp.choice C e → IsMember m next
        of_target m e l s =
            let t : Triple = record { from = s.from; lowest = s.lowest; to = m } in
            let member =
            (traces_are t).1 (
              s.member,
              record {
                leaving = e;
                walk = s.walk;
                leads = leads_exit g sp (action_of (node_at g d)) d x.child x.holds e m l;
              },
            )
            in
            subst (IsMember m) (sym next_is)
            (member-ascending m (map (λ (u : Triple). u.to) made) (member-map (λ (u : Triple). u.to) t made member))

-- ---- targets

-- a member of the list to which an entry leads
record Leading {X Y : Type 0} (h : X → Option Y) (y : Y) (xs : List X) : Type 0 where
  pub from : X
  pub member : IsMember from xs
  pub holds : h from ≡ Some y

leading_from : {X Y : Type 0} → (h : X → Option Y) (y : Y) (xs : List X) → IsMember y (filter_map h xs) → Leading h y xs
leading_from h y [] m = absurd m
leading_from {Y = Y} h y (x ∷ xs) m = by_first (h x) refl (λ n. leading_from h y xs n) m
  where
    later : Leading h y xs → Leading h y (x ∷ xs)
    later l = record { from = l.from; member = inr l.member; holds = l.holds }

    by_first : (o : Option Y) → h x ≡ o → (IsMember y (filter_map h xs) → Leading h y xs)
        → IsMember y (cons_option o (filter_map h xs)) → Leading h y (x ∷ xs)
    by_first None is rest n = later (rest n)
    by_first (Some z) is rest (inl e) = record { from = x; member = inl refl; holds = is ∙ ap (λ (k : Y). Some k) (sym e) }
    by_first (Some z) is rest (inr n) = later (rest n)

leading_to : {X Y : Type 0} → (h : X → Option Y) (x : X) (y : Y) (xs : List X)
    → IsMember x xs
    → h x ≡ Some y
    → IsMember y (filter_map h xs)
leading_to h x y [] m leads = absurd m
leading_to {Y = Y} h x y (z ∷ zs) m leads = by_first (h z) refl (λ n. leading_to h x y zs n leads) m
  where
    by_first : (o : Option Y) → h z ≡ o → (IsMember x zs → IsMember y (filter_map h zs)) → IsMember x (z ∷ zs)
        → IsMember y (cons_option o (filter_map h zs))
    by_first None is rest (inl e) =
        let none : None ≡ Some y = sym is ∙ ap h (sym e) ∙ leads in
        absurd (cc)
    by_first None is rest (inr n) = rest n
    by_first (Some k) is rest (inl e) =
        let same : Some k ≡ Some y = sym is ∙ ap h (sym e) ∙ leads in
        inl (let values : k ≡ y = cc in sym values)
    by_first (Some k) is rest (inr n) = inr (rest n)

-- one entry more, which leads somewhere, or doesn't
module _ (h : ℕ → Option ℕ) (xs ts : List ℕ) (i : ℕ) (low : i < length xs) (before : ts ≡ filter_map h (take i xs)) where
  one_more : filter_map h (take (i + 1) xs) ≡ ts ++ cons_option (h (get_or xs i 0)) []
  one_more =
      ap (filter_map h) (take_more xs i 0 low)
      ∙ filter_map-append h (take i xs) (get_or xs i 0 ∷ [])
      ∙ ap (λ ys. ys ++ cons_option (h (get_or xs i 0)) []) (sym before)

  pub leading_more : (m : ℕ) → h (get_or xs i 0) ≡ Some m → ts ++ m ∷ [] ≡ filter_map h (take (i + 1) xs)
  leading_more m leads = sym (one_more ∙ ap (λ o. ts ++ cons_option o []) leads)

  pub leading_same : h (get_or xs i 0) ≡ None → ts ≡ filter_map h (take (i + 1) xs)
  leading_same none = sym (one_more ∙ ap (λ o. ts ++ cons_option o []) none ∙ append-nil ts)

-- the nodes to which those of the spread lead out are the targets
pub targets_are : (g : Graph) (nodes : List ℕ) (c : List (ℕ × Side)) (d m : ℕ)
    → IsDiamondOf g (spread_at nodes c) d
    → IsMember m (ascending (filter_map (exit_at g (action_of (node_at g d)) d) nodes)) ↔ IsTarget g (spread_at nodes c) d m
targets_are g nodes c d m diamond = (of_exit, λ t. of_leads t.leaving t.leads)
  where
    x : Diamonds (node_at g d)
    x = diamond_is (node_at g d) diamond.holds

    of_exit : IsMember m (ascending (filter_map (exit_at g (action_of (node_at g d)) d) nodes)) → IsTarget g (spread_at nodes c) d m
    of_exit h =
        let exit = exit_at g (action_of (node_at g d)) d in
        let l = leading_from exit m nodes (ascending-member m (filter_map exit nodes) h) in
        record {
          leaving = l.from;
          leads =
              exit_leads g (spread_at nodes c) (action_of (node_at g d)) d x.child x.holds l.from m
              (member-ascending l.from nodes l.member) l.holds;
        }

    on_trail : (e : ℕ) → LeadsOut g (spread_at nodes c) d e m → IsMember e nodes
    on_trail e l = ascending-member e nodes (⊎_elim
        (λ (own : (e ≡ d) × (m ≡ l.child)). subst (λ k. IsMember k (ascending nodes)) (sym own.0) diamond.member)
        (λ (square : IsMember e (ascending nodes) × (node_at g e ≡ node.Square l.action m)). square.0)
        l.leaves)

    of_leads : (e : ℕ) → LeadsOut g (spread_at nodes c) d e m
        → IsMember m (ascending (filter_map (exit_at g (action_of (node_at g d)) d) nodes))
    of_leads e l =
        let exit = exit_at g (action_of (node_at g d)) d in
        member-ascending m (filter_map exit nodes)
        (leading_to exit e m nodes (on_trail e l)
        (leads_exit g (spread_at nodes c) (action_of (node_at g d)) d x.child x.holds e m l))

-- so they are in what a call answers
pub targets_told : {E : Type 0} → (g g2 : Graph) (nodes : List ℕ) (c : List (ℕ × Side)) (d : ℕ)
    (answer : Result (List ℕ) E)
    → g2 ≡ g
    → IsDiamondOf g (spread_at nodes c) d
    → IfOk answer (λ targets. targets ≡ ascending (filter_map (exit_at g2 (action_of (node_at g2 d)) d) nodes))
    → IfOk answer (λ targets. (m : ℕ) → IsMember m targets ↔ IsTarget g (spread_at nodes c) d m)
targets_told g g2 nodes c d (Ok targets) same diamond are = λ m.
    subst (λ (ms : List ℕ). IsMember m ms ↔ IsTarget g (spread_at nodes c) d m)
    (sym (are ∙ ap (λ (k : Graph). ascending (filter_map (exit_at k (action_of (node_at k d)) d) nodes)) same))
    (targets_are g nodes c d m diamond)
targets_told g g2 nodes c d (Err e) same diamond are = are

-- the nodes of a sequent that has a spread are nodes
pub sequent_low : (g : Graph) (C : List ℕ) (sp : SpreadList) (n : ℕ)
    → IsSpreadOf g C sp.choice sp
    → IsMember n C
    → n < size g
sequent_low g C sp n of h =
    of.low n ((of.nodes n).1 (record { from = n; member = h; lowest = priority_at g n; walk = stays n }))

-- the targets, with the traces from all nodes of the sequent, are a step
pub step_of : (g : Graph) (C : List ℕ) (sp : SpreadList) (d : ℕ) (targets : List ℕ) (traces : List Triple)
    → IsAscending targets
    → ((m : ℕ) → IsMember m targets ↔ IsTarget g sp d m)
    → ((t : Triple) → IsMember t traces ↔ (IsMember t.from C × IsTrace g C sp d t))
    → IsStep g C sp d targets traces
step_of g C sp d targets traces ascends leads begins = record {
  ascends = ascends;
  targets = leads;
  traces = λ t. (λ h. ((begins t).0 h).1, λ w. (begins t).1 (w.from, w));
}

-- and the triples that a call answers from some nodes of the sequent are the traces that begin there
pub along_from : {E : Type 0} → (g : Graph) (C : List ℕ) (sp : SpreadList) (d : ℕ) (nodes : List ℕ)
    (answer : Result (Vec Triple) E)
    → IsSpreadOf g C sp.choice sp
    → IsDiamondOf g sp d
    → All (λ n. IsMember n C) nodes
    → IfOk answer (λ traces. AreTracesFrom g sp.choice d nodes traces.items)
    → IfOk answer (λ traces. (t : Triple) → IsMember t traces.items ↔ (IsMember t.from nodes × IsTrace g C sp d t))
along_from g C sp d nodes (Ok traces) of diamond inside are = traces_are_from g C sp d of diamond nodes traces.items inside are
along_from g C sp d nodes (Err e) of diamond inside are = are

-- ---- a lone node

-- where a node leads to the nodes of a list alone, and no priority is below its own, the exits of these are its traces
pub lone_traces : (g : Graph) (c : List (ℕ × Side)) (nodes : List ℕ) (from d : ℕ)
    → IsGraph g
    → from < size g
    → ((n : ℕ) → n < size g → priority_at g from ≤ priority_at g n)
    → IsSpreadOf g (from ∷ []) c (spread_at nodes c)
    → AreTracesFrom g c d (from ∷ [])
    (triples_to from (priority_at g from) (filter_map (exit_at g (action_of (node_at g d)) d) nodes))
lone_traces g c nodes from d ok low least of t = (λ h. of_image (member-map_from trace t (filter_map exit nodes) h), λ h. of_walk h.0 h.1)
  where
    exit : ℕ → Option ℕ
    exit = exit_at g (action_of (node_at g d)) d

    trace : ℕ → Triple
    trace to = record { from = from; lowest = priority_at g from; to = to }

    only : (n : ℕ) → IsMember n (from ∷ []) → n ≡ from
    only n (inl same) = same
    only n (inr none) = absurd none

    lowest_is : (k m : ℕ) → LocalWalk g c from k m → k ≡ priority_at g from
    lowest_is k m w =
        let above = walks.walk_least g c (priority_at g from) ok least from k m low w in
        let below = walk_low g c from k m w in
        omega arith

    of_exit : (to : ℕ) → Leading exit to nodes
        → IsMember from (from ∷ []) × IsTraceFrom g c (action_of (node_at g d)) d (trace to)
    of_exit to l =
        let s = (of.nodes l.from).0 (member-ascending l.from nodes l.member) in
        let walk = subst (λ x. LocalWalk g c x s.lowest l.from) (only s.from s.member) s.walk in (
          inl refl,
          record {
            leaving = l.from;
            walk = subst (λ k. LocalWalk g c from k l.from) (lowest_is s.lowest l.from walk) walk;
            leads = l.holds;
          },
        )

    of_image : Image trace t (filter_map exit nodes) → IsMember t.from (from ∷ []) × IsTraceFrom g c (action_of (node_at g d)) d t
    of_image i =
        subst (λ (u : Triple). IsMember u.from (from ∷ []) × IsTraceFrom g c (action_of (node_at g d)) d u) (sym i.holds)
        (of_exit i.from (leading_from exit i.from nodes i.member))

    of_walk : IsMember t.from (from ∷ []) → IsTraceFrom g c (action_of (node_at g d)) d t
        → IsMember t (map trace (filter_map exit nodes))
    of_walk h w =
        let same : t.from ≡ from = only t.from h in
        let walk = subst (λ x. LocalWalk g c x t.lowest w.leaving) same w.walk in
        let lowest : t.lowest ≡ priority_at g from = lowest_is t.lowest w.leaving walk in
        let there = ascending-member w.leaving nodes
        ((of.nodes w.leaving).1 (record { from = t.from; member = h; lowest = t.lowest; walk = w.walk })) in
        let is : t ≡ trace t.to = λ i. record { from = same i; lowest = lowest i; to = t.to } in
        subst (λ u. IsMember u (map trace (filter_map exit nodes))) (sym is)
        (member-map trace t.to (filter_map exit nodes) (leading_to exit w.leaving t.to nodes there w.leads))

-- so they are in what a call answers, where a sequent is one node, and the nodes of which the traces are asked too
pub lone_ok : {E : Type 0} → (g : Graph) (C nodes trail : List ℕ) (c : List (ℕ × Side)) (d : ℕ) (answer : Result (Vec Triple) E)
    → IsGraph g
    → length C ≡ 1
    → length nodes ≡ 1
    → All (λ n. IsMember n C) nodes
    → get_or nodes 0 0 < size g
    → ((n : ℕ) → n < size g → priority_at g (get_or nodes 0 0) ≤ priority_at g n)
    → IsSpreadOf g C c (spread_at trail c)
    → IfOk answer (λ traces. traces.items ≡ triples_to (get_or nodes 0 0) (priority_at g (get_or nodes 0 0))
    (filter_map (exit_at g (action_of (node_at g d)) d) trail))
    → IfOk answer (λ traces. AreTracesFrom g c d nodes traces.items)
lone_ok g (x ∷ []) (n ∷ []) trail c d (Ok traces) ok one single inside low least of made = by_node (inside 0 0 (omega arith))
  where
    by_node : IsMember n (x ∷ []) → AreTracesFrom g c d (n ∷ []) traces.items
    by_node (inl same) =
        subst (λ (ts : List Triple). AreTracesFrom g c d (n ∷ []) ts) (sym made)
        (lone_traces g c trail n d ok low least (subst (λ k. IsSpreadOf g (k ∷ []) c (spread_at trail c)) (sym same) of))
    by_node (inr none) = absurd none
lone_ok g C nodes trail c d (Err e) ok one single inside low least of made = made
lone_ok g [] nodes trail c d (Ok traces) ok one single inside low least of made = absurd (omega arith)
lone_ok g (x ∷ y ∷ C) nodes trail c d (Ok traces) ok one single inside low least of made = absurd (omega arith)
lone_ok g (x ∷ []) [] trail c d (Ok traces) ok one single inside low least of made = absurd (omega arith)
lone_ok g (x ∷ []) (n ∷ m ∷ nodes) trail c d (Ok traces) ok one single inside low least of made = absurd (omega arith)
