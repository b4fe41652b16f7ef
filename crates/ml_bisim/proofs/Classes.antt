-- Edges and classes of a quotient.
--
--   target_edge, edge_target == the targets of a state by an action are the ends of its edges
--   source_low, target_low   == edges join states
--   class_low, some_state    == a class is a state of the quotient, and each of these is the class of some state
--   matched                  == states of one class match each other's edges
--   class_edge, edge_class   == the edges of a class are those of each of its states
use Rattle.std.proofs.Common.{ℕ, ◌≡◌, ◌<◌, ◌==◌, ◌&&◌, Bool, true, List, filter, Contains, refl, sym, ap, ◌∙◌, subst, arith}
use Rattle.std.specs.Str.{bytes_eq}
use Rattle.std.proofs.lemmas.Bool.{and_parts, and_from, eqb-true}
use Rattle.std.proofs.lemmas.Bool.Decides.{nat_tests}
use Rattle.std.proofs.lemmas.List.Elements.{All-contains}
use Rattle.std.proofs.lemmas.Slice.Eq.{bytes_eq-Decides}
use Rattle.ml_base.specs.declared.structure.Edge.{Edge}
use Rattle.ml_base.specs.Structure.{Structure, IsStructure}
use Rattle.ml_lists.specs.Member.{IsMember}
use Rattle.ml_lists.proofs.Member.{member-map, Image, member-map_from, member-filter, member-filter_from}
use Rattle.ml_lists.proofs.Members.{member_of_contains, contains_of_member}
use Rattle.ml_graph.specs.CheckingGame.{targets}
use Rattle.ml_bisim.specs.Bisimilar.{Bisimilar, HasEdge}
use Rattle.ml_bisim.specs.Quotient.{IsQuotientOf, SomeEdge, class_of}
use Rattle.ml_bisim.proofs.Turns.{runs_low, runs_place}

abbrev pub edge_from : ℕ → List ℕ → ℕ → Edge
edge_from s a t = record { source = s; action = a; target = t }

abbrev pub leaves : ℕ → List ℕ → Edge → Bool
leaves s a e = (e.source == s) && bytes_eq e.action a

itself : (x : ℕ) → (x == x) ≡ true
itself x = grind (arith, nat_tests)

pub leaves_from : (s : ℕ) (a : List ℕ) (e : Edge) → leaves s a e ≡ true → e ≡ edge_from s a e.target
leaves_from s a e is =
    let parts = and_parts (e.source == s) (bytes_eq e.action a) is in
    let sources = eqb-true e.source s parts.0 in
    let actions = (bytes_eq-Decides e.action a).0 parts.1 in
    λ i. record { source = sources i; action = actions i; target = e.target }

pub from_leaves : (s : ℕ) (a : List ℕ) (t : ℕ) → leaves s a (edge_from s a t) ≡ true
from_leaves s a t = and_from (s == s) (bytes_eq a a) (itself s) ((bytes_eq-Decides a a).1 refl)

pub target_edge : (m : Structure) (s : ℕ) (a : List ℕ) (t : ℕ) → IsMember t (targets m s a) → HasEdge m s a t
target_edge m s a t h = of_image (member-map_from (λ (e : Edge). e.target) t (filter (leaves s a) m.edges) h)
  where
    of_image : Image (λ (e : Edge). e.target) t (filter (leaves s a) m.edges) → HasEdge m s a t
    of_image image =
        let kept = member-filter_from (leaves s a) image.from m.edges image.member in
        subst (λ e. Contains m.edges e) (leaves_from s a image.from kept.1 ∙ ap (edge_from s a) (sym image.holds))
        (contains_of_member image.from m.edges kept.0)

pub edge_target : (m : Structure) (s : ℕ) (a : List ℕ) (t : ℕ) → HasEdge m s a t → IsMember t (targets m s a)
edge_target m s a t h =
    member-map (λ (e : Edge). e.target) (edge_from s a t) (filter (leaves s a) m.edges)
    (member-filter (leaves s a) (edge_from s a t) m.edges (member_of_contains (edge_from s a t) m.edges h)
    (from_leaves s a t))

pub source_low : (m : Structure) → IsStructure m → (s : ℕ) (a : List ℕ) (t : ℕ) → HasEdge m s a t → s < m.states
source_low m ok s a t h =
    (All-contains (λ (e : Edge). (e.source < m.states) × (e.target < m.states)) m.edges (edge_from s a t)
    ok.joins_states h).0

pub target_low : (m : Structure) → IsStructure m → (s : ℕ) (a : List ℕ) (t : ℕ) → HasEdge m s a t → t < m.states
target_low m ok s a t h =
    (All-contains (λ (e : Edge). (e.source < m.states) × (e.target < m.states)) m.edges (edge_from s a t)
    ok.joins_states h).1

module _ (m q : Structure) (class : List ℕ) (m_ok : IsStructure m) (quotient : IsQuotientOf m class q) where
  pub class_low : (s : ℕ) → s < m.states → class_of class s < q.states
  class_low s low = runs_low 0 q.states class quotient.classes.in_turn s (omega (arith, quotient.classes.each_state))

  -- some state of a class
  pub some_state : (c : ℕ) → c < q.states → (s : ℕ) × (s < m.states) × (class_of class s ≡ c)
  some_state c low =
      let found = runs_place q.states class quotient.classes.in_turn c low in
      (found.0, omega (arith, quotient.classes.each_state, found.1), found.2)

  -- an edge of a state of the class is matched by an edge of each other one
  pub matched : (s u : ℕ) → s < m.states → u < m.states → class_of class s ≡ class_of class u
      → (a : List ℕ) (x : ℕ) → HasEdge m u a x → (t : ℕ) × HasEdge m s a t × (class_of class t ≡ class_of class x)
  matched s u s_low u_low same a x edge = of_bisimilar ((quotient.classes.bisimilar s u s_low u_low).0 same)
    where
      of_bisimilar : Bisimilar m s u → (t : ℕ) × HasEdge m s a t × (class_of class t ≡ class_of class x)
      of_bisimilar b =
          let there = b.is_bisimulation.back s u b.joined a x edge in
          let joined : Bisimilar m there.0 x =
          record { relation = b.relation; is_bisimulation = b.is_bisimulation; joined = there.2 } in (
            there.0,
            there.1,
            (quotient.classes.bisimilar there.0 x (target_low m m_ok s a there.0 there.1) (target_low m m_ok u a x edge)).1
                joined,
          )

  -- an edge of a state is one of its class
  pub class_edge : (s : ℕ) (a : List ℕ) (t : ℕ) → HasEdge m s a t → HasEdge q (class_of class s) a (class_of class t)
  class_edge s a t edge =
      (quotient.edges (class_of class s) a (class_of class t)).1 (s, t, edge, refl, refl)

  -- an edge of a class is one of each of its states
  pub edge_class : (s : ℕ) → s < m.states → (a : List ℕ) (d : ℕ) → HasEdge q (class_of class s) a d
      → (t : ℕ) × HasEdge m s a t × (class_of class t ≡ d)
  edge_class s s_low a d edge = of_some ((quotient.edges (class_of class s) a d).0 edge)
    where
      of_some : SomeEdge m class (class_of class s) a d → (t : ℕ) × HasEdge m s a t × (class_of class t ≡ d)
      of_some some =
          let there = matched s some.0 s_low (source_low m m_ok some.0 a some.1 some.2) (sym some.3) a some.1 some.2 in
          (there.0, there.1, there.2 ∙ some.4)
