-- Claims that are kept hold.
--
-- The set of the theorem on ranked vertices is that of the claimed pairs and the sink of 0. A vertex of the checking game is
-- known by its place in the list of vertices.
--
--   IsGood       == a pair that is claimed, or the sink of 0
--   rank_at      == the rank of a pair; sinks have 0
--   StepsTo      == the step from a vertex to another one is as ranks ask for
--   even_leads   == a good vertex of Even's leads to some good one
--   odd_leads    == a good vertex of Odd's leads to good ones alone
--   kept_holds   == where each claim is kept, a node that is claimed at a state holds there
use Rattle.std.proofs.Common.{ℕ, ◌≡◌, ◌<◌, ◌≤◌, ◌%◌, ◌⊎◌, Bool, true, false, cond, List, [], ◌∷◌, length, get_or, map, Contains, inl, inr, refl, sym, ap, ◌∙◌, subst, arith}
use Rattle.std.specs.Bool.{beq}
use Rattle.std.proofs.lemmas.Bool.{cases_lt, cases_eq}
use Rattle.std.proofs.lemmas.List.{get_or-map}
use Rattle.ml_base.specs.Structure.{Structure, IsStructure, lists}
use Rattle.ml_lists.specs.Member.{IsMember}
use Rattle.ml_lists.proofs.Decided.{Decided}
use Rattle.ml_lists.proofs.Member.{Image, member-map, member-map_from, place-member}
use Rattle.ml_lists.proofs.Members.{contains_of_member, member_of_contains}
use Rattle.ml_parity.specs.declared.players.Player.TheVariants.{Even, Odd}
use Rattle.ml_parity.specs.Game.{HasMove, moves_of, owner_of, priority_of}
use Rattle.ml_graph.specs.declared.node.Node.{Node}
use Rattle.ml_graph.specs.declared.node.Node.TheVariants as node
use Rattle.ml_graph.specs.Graph.{Graph, IsGraph, size, node_at, priority_at, prop_at, action_at}
use Rattle.ml_graph.specs.CheckingGame.{Vertex, Pair, Sink, HoldsAt, checking_game, mover, owner_at, pairs_or_sink, priority_at_vertex, successors, successors_of, targets, vertex_number, vertices}
use Rattle.ml_graph.proofs.CheckingGame.{IsVertex, is_game, is_vertex, leads_to_vertices, number_low, vertex_at, vertices-length}
use Rattle.ml_graph.proofs.OneStep.{pair_member}
use Rattle.ml_witness.specs.private.Claims.{AreKept, LeadsTo, NodeIsKept, rank_of}
use Rattle.ml_witness.proofs.RankedWins.{Falls, GoodMove, even_wins}

abbrev pub IsGood : Graph → List ℕ → Vertex → Type 0
IsGood g rs (Pair s n) = 0 < rank_of g rs s n
IsGood g rs (Sink p) = p ≡ 0

abbrev pub rank_at : Graph → List ℕ → Vertex → ℕ
rank_at g rs (Pair s n) = rank_of g rs s n
rank_at g rs (Sink p) = 0

-- a step from a vertex of this priority and rank to one of rank q
abbrev pub StepsTo : (p r q : ℕ) → Type 0
StepsTo p r q = (p ≡ 0) ⊎ ((q ≤ r) × ((p % 2 ≡ 0) ⊎ (q < r)))

-- to a sink the rank falls
to_sink : (p r : ℕ) → 0 < r → StepsTo p r 0
to_sink p r some = inr (omega arith, inr some)

module _ (g : Graph) (m : Structure) (g_ok : IsGraph g) (m_ok : IsStructure m) (rs : List ℕ) (kept : AreKept g m rs) where
  abbrev Steps : Vertex → Vertex → Type 0
  Steps x y = StepsTo (priority_at_vertex g x) (rank_at g rs x) (rank_at g rs y)

  record Onward (x : Vertex) : Type 0 where
    to : Vertex
    member : IsMember to (successors g m x)
    good : IsGood g rs to
    steps : Steps x to

  -- the sink to which a literal leads
  abbrev sink_of : Bool → ℕ
  sink_of b = cond b 0 1

  same_truth : (a b : Bool) → a ≡ b → sink_of (beq a b) ≡ 0
  same_truth true true e = refl
  same_truth true false e = cc
  same_truth false true e = cc
  same_truth false false e = refl

  -- a literal that is right leads to the sink of 0
  literal : (s n p : ℕ) (positive : Bool) → node_at g n ≡ node.Lit p positive → lists m s (prop_at g p) ≡ positive
      → IsMember (Sink 0) (successors g m (Pair s n))
  literal s n p positive is told =
      subst (λ xs. IsMember (Sink 0) xs) (sym (ap (successors_of g m s) is))
      (inl (ap Sink (sym (same_truth (lists m s (prop_at g p)) positive told))))

  even_pair : (s n : ℕ) → 0 < rank_of g rs s n → (x : Node) → node_at g n ≡ x → mover x ≡ Even
      → NodeIsKept g m rs s n x → Onward (Pair s n)
  even_pair s n good node.True is even k =
      record {
        to = Sink 0;
        member = subst (IsMember (Sink 0)) (sym (ap (successors_of g m s) is)) (inl refl);
        good = refl;
        steps = to_sink (priority_at g n) (rank_of g rs s n) good;
      }
  even_pair s n good node.False is even k = absurd k
  even_pair s n good (node.Lit p positive) is even k =
      record {
        to = Sink 0;
        member = literal s n p positive is k;
        good = refl;
        steps = to_sink (priority_at g n) (rank_of g rs s n) good;
      }
  even_pair s n good (node.And l r) is even k = absurd (cc)
  even_pair s n good (node.Or l r) is even (inl lead) =
      record {
        to = Pair s l;
        member = subst (IsMember (Pair s l)) (sym (ap (successors_of g m s) is)) (inl refl);
        good = lead.0;
        steps = lead.1;
      }
  even_pair s n good (node.Or l r) is even (inr lead) =
      record {
        to = Pair s r;
        member = subst (IsMember (Pair s r)) (sym (ap (successors_of g m s) is)) (inr (inl refl));
        good = lead.0;
        steps = lead.1;
      }
  even_pair s n good (node.Diamond a to) is even k =
      record {
        to = Pair k.0 to;
        member = subst (IsMember (Pair k.0 to)) (sym (ap (successors_of g m s) is))
            (pair_member to 1 k.0 (targets m s (action_at g a)) (member_of_contains k.0 (targets m s (action_at g a)) k.1));
        good = k.2.0;
        steps = k.2.1;
      }
  even_pair s n good (node.Square a to) is even k = absurd (cc)

  -- a good vertex of Even's leads to some good one
  even_leads : (x : Vertex) → IsVertex g m x → IsGood g rs x → owner_at g x ≡ Even → Onward x
  even_leads (Pair s n) is good even = even_pair s n good (node_at g n) refl even (kept s n is.0 is.1 good)
  even_leads (Sink p) is good even = record { to = Sink p; member = inl refl; good = good; steps = inl good }

  -- the pairs of a square's targets, or the sink of 0
  square : (s n a to : ℕ) (ts : List ℕ) → 0 < rank_of g rs s n
      → ((t : ℕ) → IsMember t ts → LeadsTo g rs s n t to)
      → (y : Vertex) → IsMember y (pairs_or_sink to 0 ts) → IsGood g rs y × Steps (Pair s n) y
  square s n a to [] good leads y (inl e) =
      subst (λ z. IsGood g rs z × Steps (Pair s n) z) (sym e) (refl, to_sink (priority_at g n) (rank_of g rs s n) good)
  square s n a to [] good leads y (inr e) = absurd e
  square s n a to (t ∷ ts) good leads y member = of_image (member-map_from (λ u. Pair u to) y (t ∷ ts) member)
    where
      of_image : Image (λ u. Pair u to) y (t ∷ ts) → IsGood g rs y × Steps (Pair s n) y
      of_image image =
          subst (λ z. IsGood g rs z × Steps (Pair s n) z) (sym image.holds) (leads image.from image.member)

  odd_pair : (s n : ℕ) → 0 < rank_of g rs s n → (x : Node) → mover x ≡ Odd → NodeIsKept g m rs s n x
      → (y : Vertex) → IsMember y (successors_of g m s x) → IsGood g rs y × Steps (Pair s n) y
  odd_pair s n good node.True odd k y member = absurd (cc)
  odd_pair s n good node.False odd k y member = absurd (cc)
  odd_pair s n good (node.Lit p positive) odd k y member = absurd (cc)
  odd_pair s n good (node.And l r) odd k y (inl e) =
      subst (λ z. IsGood g rs z × Steps (Pair s n) z) (sym e) (k.0.0, k.0.1)
  odd_pair s n good (node.And l r) odd k y (inr (inl e)) =
      subst (λ z. IsGood g rs z × Steps (Pair s n) z) (sym e) (k.1.0, k.1.1)
  odd_pair s n good (node.And l r) odd k y (inr (inr e)) = absurd e
  odd_pair s n good (node.Or l r) odd k y member = absurd (cc)
  odd_pair s n good (node.Diamond a to) odd k y member = absurd (cc)
  odd_pair s n good (node.Square a to) odd k y member =
      square s n a to (targets m s (action_at g a)) good
      (λ t inside. k t (contains_of_member t (targets m s (action_at g a)) inside)) y member

  -- a good vertex of Odd's leads to good ones alone
  odd_leads : (x : Vertex) → IsVertex g m x → IsGood g rs x → owner_at g x ≡ Odd
      → (y : Vertex) → IsMember y (successors g m x) → IsGood g rs y × Steps x y
  odd_leads (Pair s n) is good odd y member = odd_pair s n good (node_at g n) odd (kept s n is.0 is.1 good) y member
  odd_leads (Sink p) is good odd y member = absurd (cc)

  -- ---- the same of numbers of vertices

  abbrev at : ℕ → Vertex
  at v = get_or (vertices g m) v (Sink 0)

  abbrev Good : ℕ → Type 0
  Good v = (v < length (vertices g m)) × IsGood g rs (at v)

  abbrev rank : ℕ → ℕ
  rank v = rank_at g rs (at v)

  is_one : (v : ℕ) → v < length (vertices g m) → IsVertex g m (at v)
  is_one v low = is_vertex g m (at v) (place-member (vertices g m) v (Sink 0) low)

  low_number : (y : Vertex) → IsVertex g m y → vertex_number g m y < length (vertices g m)
  low_number y is = omega (arith, vertices-length g m, number_low g m y is)

  owner_is_at : (v : ℕ) → v < length (vertices g m) → owner_of (checking_game g m) v ≡ owner_at g (at v)
  owner_is_at v low = get_or-map (owner_at g) (vertices g m) v (Sink 0) Even low

  priority_is_at : (v : ℕ) → v < length (vertices g m)
      → priority_of (checking_game g m) v ≡ priority_at_vertex g (at v)
  priority_is_at v low = get_or-map (priority_at_vertex g) (vertices g m) v (Sink 0) 0 low

  moves_are_at : (v : ℕ) → v < length (vertices g m)
      → moves_of (checking_game g m) v ≡ map (vertex_number g m) (successors g m (at v))
  moves_are_at v low = get_or-map (λ x. map (vertex_number g m) (successors g m x)) (vertices g m) v (Sink 0) [] low

  good_number : (y : Vertex) → IsVertex g m y → IsGood g rs y → Good (vertex_number g m y)
  good_number y is good = (low_number y is, subst (IsGood g rs) (sym (vertex_at g m y is)) good)

  falls_number : (v : ℕ) → v < length (vertices g m) → (y : Vertex) → IsVertex g m y → Steps (at v) y
      → Falls (checking_game g m) rank v (vertex_number g m y)
  falls_number v low y is steps =
      subst (λ z. StepsTo (priority_of (checking_game g m) v) (rank v) (rank_at g rs z)) (sym (vertex_at g m y is))
      (subst (λ p. StepsTo p (rank v) (rank_at g rs y)) (sym (priority_is_at v low)) steps)

  decided_vertex : (x : Vertex) → Decided (IsGood g rs x)
  decided_vertex (Pair s n) = of_rank (cases_eq (rank_of g rs s n) 0)
    where
      of_rank : (rank_of g rs s n ≡ 0) ⊎ (rank_of g rs s n ≡ 0 → ⊥) → Decided (0 < rank_of g rs s n)
      of_rank (inl none) = inr (λ some. omega arith)
      of_rank (inr other) = inl (omega arith)
  decided_vertex (Sink p) = cases_eq p 0

  decided : (v : ℕ) → Decided (Good v)
  decided v = by_place (cases_lt v (length (vertices g m)))
    where
      by_good : v < length (vertices g m) → Decided (IsGood g rs (at v)) → Decided (Good v)
      by_good low (inl good) = inl (low, good)
      by_good low (inr bad) = inr (λ (h : Good v). bad h.1)

      by_place : (v < length (vertices g m)) ⊎ (length (vertices g m) ≤ v) → Decided (Good v)
      by_place (inl low) = by_good low (decided_vertex (at v))
      by_place (inr high) = inr (λ (h : Good v). omega (arith, h.0, high))

  own : (v : ℕ) → Good v → owner_of (checking_game g m) v ≡ Even → GoodMove (checking_game g m) Good rank v
  own v good even =
      let on = even_leads (at v) (is_one v good.0) good.1 (sym (owner_is_at v good.0) ∙ even) in
      let is = leads_to_vertices g m g_ok m_ok (at v) (is_one v good.0) on.to on.member in
      record {
        to = vertex_number g m on.to;
        move = subst (λ ws. Contains ws (vertex_number g m on.to)) (sym (moves_are_at v good.0))
            (contains_of_member (vertex_number g m on.to) (map (vertex_number g m) (successors g m (at v)))
            (member-map (vertex_number g m) on.to (successors g m (at v)) on.member));
        inside = good_number on.to is on.good;
        falls = falls_number v good.0 on.to is on.steps;
      }

  other : (v : ℕ) → Good v → owner_of (checking_game g m) v ≡ Odd → (w : ℕ) → HasMove (checking_game g m) v w
      → Good w × Falls (checking_game g m) rank v w
  other v good odd w move =
      of_image
      (member-map_from (vertex_number g m) w (successors g m (at v))
      (member_of_contains w (map (vertex_number g m) (successors g m (at v)))
      (subst (λ ws. Contains ws w) (moves_are_at v good.0) move)))
    where
      of_image : Image (vertex_number g m) w (successors g m (at v)) → Good w × Falls (checking_game g m) rank v w
      of_image image =
          let is = leads_to_vertices g m g_ok m_ok (at v) (is_one v good.0) image.from image.member in
          let on = odd_leads (at v) (is_one v good.0) good.1 (sym (owner_is_at v good.0) ∙ odd) image.from image.member in
          subst (λ k. Good k × Falls (checking_game g m) rank v k) (sym image.holds)
          (good_number image.from is on.0, falls_number v good.0 image.from is on.1)

  -- a node that is claimed at a state holds there
  pub kept_holds : (s n : ℕ) → s < m.states → n < size g → 0 < rank_of g rs s n → HoldsAt g m s n
  kept_holds s n s_low n_low claimed =
      even_wins (checking_game g m) (is_game g m g_ok m_ok) Good rank decided own other (vertex_number g m (Pair s n))
      (good_number (Pair s n) (s_low, n_low) claimed)
