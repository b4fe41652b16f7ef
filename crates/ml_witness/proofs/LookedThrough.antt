-- What the check looks through is what claims have to keep.
--
--   found_member == what is found at a place is one of the edges
--   way_along    == an edge from s of the action leads to a target
--   kept_node    == what stands beside, and along each edge if it is a square, is kept
--   all_kept     == so each claim is kept
use Rattle.std.proofs.Common.{ℕ, ◌≡◌, ◌<◌, ◌==◌, true, ◌&&◌, Bool, List, length, get_or, ltb, filter, All, Contains, sym, subst, arith}
use Rattle.std.specs.Str.{bytes_eq}
use Rattle.std.proofs.lemmas.Bool.{and_from, and_parts, ltb-true}
use Rattle.std.proofs.lemmas.Bool.Decides.{nat_tests}
use Rattle.ml_base.specs.declared.structure.Edge.{Edge}
use Rattle.ml_base.specs.Structure.{Structure}
use Rattle.ml_lists.specs.Member.{IsMember}
use Rattle.ml_lists.proofs.Member.{All-member, Image, member-filter, member-filter_from, member-map, member-map_from, place-member}
use Rattle.ml_lists.proofs.Members.{contains_of_member, member_of_contains}
use Rattle.ml_graph.specs.CheckingGame.{targets}
use Rattle.ml_graph.specs.Graph.{Graph, action_at, node_at}
use Rattle.ml_graph.specs.declared.node.Node.{Node}
use Rattle.ml_graph.specs.declared.node.Node.TheVariants as node
use Rattle.ml_witness.specs.private.Claims.{AllStandAt, AreKept, LeadsTo, NodeIsKept, SquareIsKept, SquaresLead, StandsBeside, rank_of}

-- what is found at a place is one of the edges
pub found_member : (es all : List Edge) (k : ℕ) (e : Edge) → es ≡ all → true ≡ ltb k (length es) → e ≡ get_or es k e
    → IsMember e all
found_member es all k e same low is =
    subst (IsMember e) same
    (subst (λ x. IsMember x es) (sym is) (place-member es k e (ltb-true k (length es) (sym low))))

-- does the edge leave s by the action?
abbrev leaves : ℕ → List ℕ → Edge → Bool
leaves s a e = (e.source == s) && bytes_eq e.action a

-- an edge from s of the action leads to a target
pub way_along : (m : Structure) (s : ℕ) (a : List ℕ) (e : Edge) → IsMember e m.edges → e.source ≡ s
    → bytes_eq e.action a ≡ true → Contains (targets m s a) e.target
way_along m s a e inside source action =
    let here : (e.source == s) ≡ true = grind (arith, nat_tests) in
    contains_of_member e.target (targets m s a)
    (member-map (λ (x : Edge). x.target) e (filter (leaves s a) m.edges)
    (member-filter (leaves s a) e m.edges inside (and_from (e.source == s) (bytes_eq e.action a) here action)))

-- the edge along which a target is reached
record Way (m : Structure) (s : ℕ) (a : List ℕ) (t : ℕ) : Type 0 where
  edge : Edge
  inside : IsMember edge m.edges
  source : edge.source ≡ s
  action : bytes_eq edge.action a ≡ true
  target : edge.target ≡ t

way_of : (m : Structure) (s : ℕ) (a : List ℕ) (t : ℕ) → Contains (targets m s a) t → Way m s a t
way_of m s a t reached =
    of_image
    (member-map_from (λ (x : Edge). x.target) t (filter (leaves s a) m.edges)
    (member_of_contains t (targets m s a) reached))
  where
    of_image : Image (λ (x : Edge). x.target) t (filter (leaves s a) m.edges) → Way m s a t
    of_image image =
        let from = member-filter_from (leaves s a) image.from m.edges image.member in
        let tests = and_parts (image.from.source == s) (bytes_eq image.from.action a) from.1 in
        let source : image.from.source ≡ s = grind (arith, nat_tests, tests.0) in
        record {
          edge = image.from;
          inside = from.0;
          source = source;
          action = tests.1;
          target = sym image.holds;
        }

-- what stands beside, and along each edge if it is a square, is kept
kept_node : (g : Graph) (m : Structure) (rs : List ℕ) (s n : ℕ) → 0 < rank_of g rs s n → (x : Node)
    → StandsBeside g m rs s n x
    → ((e : Edge) → IsMember e m.edges → SquareIsKept g rs e n x)
    → NodeIsKept g m rs s n x
kept_node g m rs s n claimed node.True beside along = tt
kept_node g m rs s n claimed node.False beside along = absurd beside
kept_node g m rs s n claimed (node.Lit p positive) beside along = beside
kept_node g m rs s n claimed (node.And l r) beside along = beside
kept_node g m rs s n claimed (node.Or l r) beside along = beside
kept_node g m rs s n claimed (node.Diamond a to) beside along = beside
kept_node g m rs s n claimed (node.Square a to) beside along =
    λ t reached.
    let way = way_of m s (action_at g a) t reached in
    let lead = along way.edge way.inside (subst (λ u. 0 < rank_of g rs u n) (sym way.source) claimed) way.action in
    subst (λ u. LeadsTo g rs s n u to) way.target (subst (λ u. LeadsTo g rs u n way.edge.target to) way.source lead)

-- so each claim is kept
pub all_kept : (g : Graph) (m : Structure) (rs : List ℕ)
    → ((s : ℕ) → s < m.states → AllStandAt g m rs s)
    → All (SquaresLead g rs) m.edges
    → AreKept g m rs
all_kept g m rs beside along s n s_low n_low claimed =
    kept_node g m rs s n claimed (node_at g n) (beside s s_low n n_low claimed)
    (λ e inside. All-member (SquaresLead g rs) m.edges along e inside n n_low)
