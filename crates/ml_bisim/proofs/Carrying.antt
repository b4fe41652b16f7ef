-- The game of a structure and that of its quotient.
--
--   carried_pair == a vertex of the one game as a vertex of the other: the state is replaced by its class
--   forth, back  == to what a vertex leads in the one game, its image leads in the other, and to nothing else
--   graphs_carried == so both players win the same in both
use Rattle.std.proofs.Common.{ℕ, ◌≡◌, ◌<◌, ◌↔◌, inl, inr, Bool, cond, List, [], ◌∷◌, length, get_or, map, Contains, refl, sym, ap, ◌∙◌, subst, arith}
use Rattle.std.specs.Bool.{beq}
use Rattle.std.proofs.lemmas.List.{length-map}
use Rattle.ml_base.specs.Structure.{Structure, IsStructure, lists}
use Rattle.ml_lists.specs.Member.{IsMember}
use Rattle.ml_lists.proofs.Member.{member-map, Image, member-map_from}
use Rattle.ml_lists.proofs.Members.{member_of_contains, contains_of_member}
use Rattle.ml_parity.specs.declared.players.Player.TheVariants.{Even}
use Rattle.ml_parity.specs.Game.{HasMove, owner_of, priority_of}
use Rattle.ml_parity.specs.Winner.{Wins}
use Rattle.ml_parity.proofs.Carried.{IsCopied, IsRegion, MoveTo, straight, copied}
use Rattle.ml_graph.specs.declared.node.Node.{Node}
use Rattle.ml_graph.specs.declared.node.Node.TheVariants as node
use Rattle.ml_graph.specs.Graph.{Graph, IsGraph, node_at, prop_at, action_at}
use Rattle.ml_graph.specs.CheckingGame.{Vertex, Pair, Sink, owner_at, priority_at_vertex, vertex_number, successors, successors_of, pairs_or_sink, targets, vertices, checking_game}
use Rattle.ml_graph.proofs.CheckingGame.{IsVertex, leads_to_vertices, is_game, vertices-length, number_low, vertex_at, owner_is, priority_is, moves_are}
use Rattle.ml_bisim.specs.Quotient.{IsQuotientOf, class_of}
use Rattle.ml_bisim.specs.Laws.{GraphsCarried}
use Rattle.ml_bisim.proofs.Classes.{target_edge, edge_target, class_low, class_edge, edge_class}

module _ (class : List ℕ) where
  -- the state is replaced by its class
  abbrev pub carried_pair : Vertex → Vertex
  carried_pair (Pair s n) = Pair (class_of class s) n
  carried_pair (Sink p) = Sink p

  abbrev Before : List Vertex → Vertex → Type 0
  Before vs w = (v : Vertex) × IsMember v vs × (carried_pair v ≡ w)

  -- us are the classes of ts
  record AreClassesOf (ts us : List ℕ) : Type 0 where
    pub there : (t : ℕ) → IsMember t ts → IsMember (class_of class t) us
    pub back : (u : ℕ) → IsMember u us → (t : ℕ) × IsMember t ts × (class_of class t ≡ u)

  pairs_forth : (n p : ℕ) (ts us : List ℕ) → AreClassesOf ts us
      → (v : Vertex) → IsMember v (pairs_or_sink n p ts) → IsMember (carried_pair v) (pairs_or_sink n p us)
  pairs_forth n p [] [] are v (inl e) = inl (ap carried_pair e)
  pairs_forth n p [] [] are v (inr e) = absurd e
  pairs_forth n p [] (u ∷ us) are v h = absurd ((are.back u (inl refl)).1)
  pairs_forth n p (t ∷ ts) [] are v h = absurd (are.there t (inl refl))
  pairs_forth n p (t ∷ ts) (u ∷ us) are v h = of_image (member-map_from (λ x. Pair x n) v (t ∷ ts) h)
    where
      of_image : Image (λ x. Pair x n) v (t ∷ ts) → IsMember (carried_pair v) (map (λ x. Pair x n) (u ∷ us))
      of_image image =
          subst (λ w. IsMember (carried_pair w) (map (λ x. Pair x n) (u ∷ us))) (sym image.holds)
          (member-map (λ x. Pair x n) (class_of class image.from) (u ∷ us) (are.there image.from image.member))

  pairs_back : (n p : ℕ) (ts us : List ℕ) → AreClassesOf ts us
      → (w : Vertex) → IsMember w (pairs_or_sink n p us) → Before (pairs_or_sink n p ts) w
  pairs_back n p [] [] are w (inl e) = (Sink p, inl refl, sym e)
  pairs_back n p [] [] are w (inr e) = absurd e
  pairs_back n p [] (u ∷ us) are w h = absurd ((are.back u (inl refl)).1)
  pairs_back n p (t ∷ ts) [] are w h = absurd (are.there t (inl refl))
  pairs_back n p (t ∷ ts) (u ∷ us) are w h = of_image (member-map_from (λ x. Pair x n) w (u ∷ us) h)
    where
      of_image : Image (λ x. Pair x n) w (u ∷ us) → Before (map (λ x. Pair x n) (t ∷ ts)) w
      of_image image =
          let there = are.back image.from image.member in (
            Pair there.0 n,
            member-map (λ x. Pair x n) there.0 (t ∷ ts) there.1,
            ap (λ x. Pair x n) there.2 ∙ sym image.holds,
          )

  sink_forth : (p r : ℕ) → p ≡ r → (v : Vertex) → IsMember v (Sink p ∷ []) → IsMember (carried_pair v) (Sink r ∷ [])
  sink_forth p r same v (inl e) = inl (ap carried_pair e ∙ ap Sink same)
  sink_forth p r same v (inr e) = absurd e

  sink_back : (p r : ℕ) → p ≡ r → (w : Vertex) → IsMember w (Sink r ∷ []) → Before (Sink p ∷ []) w
  sink_back p r same w (inl e) = (Sink p, inl refl, ap Sink same ∙ sym e)
  sink_back p r same w (inr e) = absurd e

  two_forth : (s l r : ℕ) (v : Vertex) → IsMember v (Pair s l ∷ Pair s r ∷ [])
      → IsMember (carried_pair v) (Pair (class_of class s) l ∷ Pair (class_of class s) r ∷ [])
  two_forth s l r v (inl e) = inl (ap carried_pair e)
  two_forth s l r v (inr (inl e)) = inr (inl (ap carried_pair e))
  two_forth s l r v (inr (inr e)) = absurd e

  two_back : (s l r : ℕ) (w : Vertex) → IsMember w (Pair (class_of class s) l ∷ Pair (class_of class s) r ∷ [])
      → Before (Pair s l ∷ Pair s r ∷ []) w
  two_back s l r w (inl e) = (Pair s l, inl refl, sym e)
  two_back s l r w (inr (inl e)) = (Pair s r, inr (inl refl), sym e)
  two_back s l r w (inr (inr e)) = absurd e

module _ (m q : Structure) (class : List ℕ) (m_ok : IsStructure m) (quotient : IsQuotientOf m class q) (g : Graph)
    (g_ok : IsGraph g) where
  same_targets : (s : ℕ) → s < m.states → (a : List ℕ)
      → AreClassesOf class (targets m s a) (targets q (class_of class s) a)
  same_targets s low a = record {
    there = λ t h. edge_target q (class_of class s) a (class_of class t)
        (class_edge m q class m_ok quotient s a t (target_edge m s a t h));
    back = λ u h.
        let there = edge_class m q class m_ok quotient s low a u (target_edge q (class_of class s) a u h) in
        (there.0, edge_target m s a there.0 there.1, there.2);
  }

  abbrev sink_of : Bool → Bool → ℕ
  sink_of b positive = cond (beq b positive) 0 1

  same_literal : (s : ℕ) → s < m.states → (p : List ℕ) (positive : Bool)
      → sink_of (lists m s p) positive ≡ sink_of (lists q (class_of class s) p) positive
  same_literal s low p positive = ap (λ (b : Bool). sink_of b positive) (sym (quotient.labels s low p))

  -- to what a vertex leads, its image leads
  forth : (v : Vertex) → IsVertex g m v → (w : Vertex) → IsMember w (successors g m v)
      → IsMember (carried_pair class w) (successors g q (carried_pair class v))
  forth (Sink p) is w h = sink_forth class p p refl w h
  forth (Pair s n) is w h = of_node (node_at g n) h
    where
      of_node : (x : Node) → IsMember w (successors_of g m s x)
          → IsMember (carried_pair class w) (successors_of g q (class_of class s) x)
      of_node node.True h = sink_forth class 0 0 refl w h
      of_node node.False h = sink_forth class 1 1 refl w h
      of_node (node.Lit p positive) h =
          sink_forth class (cond (beq (lists m s (prop_at g p)) positive) 0 1)
          (cond (beq (lists q (class_of class s) (prop_at g p)) positive) 0 1)
          (same_literal s is.0 (prop_at g p) positive) w h
      of_node (node.And l r) h = two_forth class s l r w h
      of_node (node.Or l r) h = two_forth class s l r w h
      of_node (node.Diamond a to) h =
          pairs_forth class to 1 (targets m s (action_at g a)) (targets q (class_of class s) (action_at g a))
          (same_targets s is.0 (action_at g a)) w h
      of_node (node.Square a to) h =
          pairs_forth class to 0 (targets m s (action_at g a)) (targets q (class_of class s) (action_at g a))
          (same_targets s is.0 (action_at g a)) w h

  -- and to nothing else
  back : (v : Vertex) → IsVertex g m v → (w : Vertex) → IsMember w (successors g q (carried_pair class v))
      → Before class (successors g m v) w
  back (Sink p) is w h = sink_back class p p refl w h
  back (Pair s n) is w h = of_node (node_at g n) h
    where
      of_node : (x : Node) → IsMember w (successors_of g q (class_of class s) x) → Before class (successors_of g m s x) w
      of_node node.True h = sink_back class 0 0 refl w h
      of_node node.False h = sink_back class 1 1 refl w h
      of_node (node.Lit p positive) h =
          sink_back class (cond (beq (lists m s (prop_at g p)) positive) 0 1)
          (cond (beq (lists q (class_of class s) (prop_at g p)) positive) 0 1)
          (same_literal s is.0 (prop_at g p) positive) w h
      of_node (node.And l r) h = two_back class s l r w h
      of_node (node.Or l r) h = two_back class s l r w h
      of_node (node.Diamond a to) h =
          pairs_back class to 1 (targets m s (action_at g a)) (targets q (class_of class s) (action_at g a))
          (same_targets s is.0 (action_at g a)) w h
      of_node (node.Square a to) h =
          pairs_back class to 0 (targets m s (action_at g a)) (targets q (class_of class s) (action_at g a))
          (same_targets s is.0 (action_at g a)) w h

  is_carried : (v : Vertex) → IsVertex g m v → IsVertex g q (carried_pair class v)
  is_carried (Pair s n) is = (class_low m q class m_ok quotient s is.0, is.1)
  is_carried (Sink p) is = is

  same_owner : (v : Vertex) → owner_at g (carried_pair class v) ≡ owner_at g v
  same_owner (Pair s n) = refl
  same_owner (Sink p) = refl

  same_priority : (v : Vertex) → priority_at_vertex g (carried_pair class v) ≡ priority_at_vertex g v
  same_priority (Pair s n) = refl
  same_priority (Sink p) = refl

  -- the same for the numbers of vertices
  image : ℕ → ℕ
  image x = vertex_number g q (carried_pair class (get_or (vertices g m) x (Sink 0)))

  image_at : (v : Vertex) → IsVertex g m v → image (vertex_number g m v) ≡ vertex_number g q (carried_pair class v)
  unfolding image
  image_at v is = ap (λ w. vertex_number g q (carried_pair class w)) (vertex_at g m v is)

  -- the number of a vertex
  record OfVertex (x : ℕ) : Type 0 where
    pub vertex : Vertex
    pub is : IsVertex g m vertex
    pub number : vertex_number g m vertex ≡ x

  vertex_low : (h : Structure) (v : Vertex) → IsVertex g h v → vertex_number g h v < length (checking_game g h).owner
  vertex_low h v is = omega (arith, length-map (vertices g h) (owner_at g), vertices-length g h, number_low g h v is)

  region : IsRegion (checking_game g m) (checking_game g q) image OfVertex
  region = record {
    low = λ x o. subst (λ y. y < length (checking_game g m).owner) o.number (vertex_low m o.vertex o.is);
    image_low = λ x o. subst (λ y. image y < length (checking_game g q).owner) o.number
        (subst (λ y. y < length (checking_game g q).owner) (sym (image_at o.vertex o.is))
        (vertex_low q (carried_pair class o.vertex) (is_carried o.vertex o.is)));
  }

  -- a move of a game leads to a vertex to which the vertex leads
  move_from : (h : Structure) (v : Vertex) → IsVertex g h v → (y : ℕ) → HasMove (checking_game g h) (vertex_number g h v) y
      → Image (vertex_number g h) y (successors g h v)
  move_from h v is y move =
      member-map_from (vertex_number g h) y (successors g h v)
      (member_of_contains y (map (vertex_number g h) (successors g h v))
      (subst (λ ys. Contains ys y) (moves_are g h v is) move))

  move_to : (h : Structure) (v : Vertex) → IsVertex g h v → (w : Vertex) → IsMember w (successors g h v)
      → HasMove (checking_game g h) (vertex_number g h v) (vertex_number g h w)
  move_to h v is w member =
      subst (λ ys. Contains ys (vertex_number g h w)) (sym (moves_are g h v is))
      (contains_of_member (vertex_number g h w) (map (vertex_number g h) (successors g h v))
      (member-map (vertex_number g h) w (successors g h v) member))

  is_copied : (v : Vertex) → IsVertex g m v
      → IsCopied (checking_game g m) (checking_game g q) image (λ p. p) 0 OfVertex (vertex_number g m v)
  is_copied v is = record {
    owner =
        ap (owner_of (checking_game g q)) (image_at v is)
        ∙ owner_is g q (carried_pair class v) (is_carried v is)
        ∙ same_owner v
        ∙ sym (owner_is g m v is);
    priority =
        let same = ap (priority_of (checking_game g q)) (image_at v is)
        ∙ priority_is g q (carried_pair class v) (is_carried v is)
        ∙ same_priority v
        ∙ sym (priority_is g m v is) in
        omega (arith, same);
    there = λ y move. of_move y (move_from m v is y move);
    back = λ z move. of_image z
        (move_from q (carried_pair class v) (is_carried v is) z
        (subst (λ x. HasMove (checking_game g q) x z) (image_at v is) move));
    inside = λ y move. inside y (move_from m v is y move);
  }
    where
      leads : (w : Vertex) → IsMember w (successors g m v) → IsVertex g m w
      leads w h = leads_to_vertices g m g_ok m_ok v is w h

      of_move : (y : ℕ) → Image (vertex_number g m) y (successors g m v)
          → HasMove (checking_game g q) (image (vertex_number g m v)) (image y)
      of_move y to =
          subst (λ x. HasMove (checking_game g q) x (image y)) (sym (image_at v is))
          (subst (HasMove (checking_game g q) (vertex_number g q (carried_pair class v)))
          (sym (ap image to.holds ∙ image_at to.from (leads to.from to.member)))
          (move_to q (carried_pair class v) (is_carried v is) (carried_pair class to.from)
          (forth v is to.from to.member)))

      of_image : (z : ℕ) → Image (vertex_number g q) z (successors g q (carried_pair class v))
          → MoveTo (checking_game g m) image (vertex_number g m v) z
      of_image z to =
          let before = back v is to.from to.member in
          record {
            to = vertex_number g m before.0;
            move = move_to m v is before.0 before.1;
            is =
                image_at before.0 (leads before.0 before.1)
                ∙ ap (vertex_number g q) before.2
                ∙ sym to.holds;
          }

      inside : (y : ℕ) → Image (vertex_number g m) y (successors g m v) → OfVertex y
      inside y to = record { vertex = to.from; is = leads to.from to.member; number = sym to.holds }

  q_ok : IsStructure q
  q_ok = quotient.is_structure

  pub carried_at : (v : Vertex) → IsVertex g m v
      → Wins (checking_game g m) Even (vertex_number g m v)
      ↔ Wins (checking_game g q) Even (vertex_number g q (carried_pair class v))
  carried_at v is =
      subst (λ x. Wins (checking_game g m) Even (vertex_number g m v) ↔ Wins (checking_game g q) Even x) (image_at v is)
      (copied (checking_game g m) (checking_game g q) (is_game g m g_ok m_ok) (is_game g q g_ok q_ok) image (λ p. p) 0
      straight OfVertex region
      (λ x o. inr (subst (IsCopied (checking_game g m) (checking_game g q) image (λ p. p) 0 OfVertex) o.number
      (is_copied o.vertex o.is))) Even (vertex_number g m v)
      (record { vertex = v; is = is; number = refl }))

pub graphs_carried : GraphsCarried
graphs_carried m q class m_ok quotient g g_ok s n s_low n_low =
    carried_at m q class m_ok quotient g g_ok (Pair s n) (s_low, n_low)
