-- No two states of a quotient are bisimilar, and where each state of the structure has an edge, so does each of the
-- quotient.
--
--   pulled_back    == a bisimulation of the quotient joins states of the structure by their classes
--   reduced        == so bisimilar classes are one
--   total_kept     == an edge of a state of a class is one of the class
use Rattle.std.proofs.Common.{ℕ, ◌≡◌, ◌<◌, ◌&&◌, Bool, nat_lt, List, Contains, IsTrue, sym, ◌∙◌, subst, lt-ltb}
use Rattle.std.proofs.lemmas.Bool.{and_parts, and_from, ltb-true}
use Rattle.ml_base.specs.Structure.{Structure, IsStructure}
use Rattle.ml_lists.proofs.Member.{Passing, list_any-member, member-list_any}
use Rattle.ml_lists.proofs.Members.{member_of_contains, contains_of_member}
use Rattle.ml_kripke.specs.Total.{IsTotal, goes_on}
use Rattle.ml_bisim.specs.Bisimilar.{Bisimilar, IsBisimulation}
use Rattle.ml_bisim.specs.Quotient.{IsQuotientOf, class_of}
use Rattle.ml_bisim.specs.Laws.{Reduced, TotalKept}
use Rattle.ml_bisim.proofs.Classes.{edge_from, leaves, leaves_from, from_leaves, target_low, class_edge, edge_class, some_state}

module _ (m q : Structure) (class : List ℕ) (m_ok : IsStructure m) (quotient : IsQuotientOf m class q) where
  module _ (R : ℕ → ℕ → Bool) (is : IsBisimulation q R) where
    abbrev by_class : ℕ → ℕ → Bool
    by_class s t = nat_lt s m.states && (nat_lt t m.states && R (class_of class s) (class_of class t))

    record AreJoined (s t : ℕ) : Type 0 where
      pub source : s < m.states
      pub target : t < m.states
      pub classes : IsTrue (R (class_of class s) (class_of class t))

    joined : (s t : ℕ) → IsTrue (by_class s t) → AreJoined s t
    joined s t e =
        let first = and_parts (nat_lt s m.states) (nat_lt t m.states && R (class_of class s) (class_of class t)) e in
        let rest = and_parts (nat_lt t m.states) (R (class_of class s) (class_of class t)) first.1 in
        record { source = ltb-true s m.states first.0; target = ltb-true t m.states rest.0; classes = rest.1 }

    joins : (s t : ℕ) → AreJoined s t → IsTrue (by_class s t)
    joins s t j =
        and_from (nat_lt s m.states) (nat_lt t m.states && R (class_of class s) (class_of class t))
        (lt-ltb s m.states j.source)
        (and_from (nat_lt t m.states) (R (class_of class s) (class_of class t)) (lt-ltb t m.states j.target) j.classes)

    pulled_back : IsBisimulation m by_class
    pulled_back = record {
      same_labels = λ s t e p.
          let j = joined s t e in
          sym (quotient.labels s j.source p)
          ∙ is.same_labels (class_of class s) (class_of class t) j.classes p
          ∙ quotient.labels t j.target p;
      forth = λ s t e a x edge.
          let j = joined s t e in
          let there = is.forth (class_of class s) (class_of class t) j.classes a (class_of class x)
          (class_edge m q class m_ok quotient s a x edge) in
          let found = edge_class m q class m_ok quotient t j.target a there.0 there.1 in (
            found.0,
            found.1,
            joins x found.0 (record {
              source = target_low m m_ok s a x edge;
              target = target_low m m_ok t a found.0 found.1;
              classes = subst (λ d. IsTrue (R (class_of class x) d)) (sym found.2) there.2;
            }),
          );
      back = λ s t e a y edge.
          let j = joined s t e in
          let there = is.back (class_of class s) (class_of class t) j.classes a (class_of class y)
          (class_edge m q class m_ok quotient t a y edge) in
          let found = edge_class m q class m_ok quotient s j.source a there.0 there.1 in (
            found.0,
            found.1,
            joins found.0 y (record {
              source = target_low m m_ok s a found.0 found.1;
              target = target_low m m_ok t a y edge;
              classes = subst (λ d. IsTrue (R d (class_of class y))) (sym found.2) there.2;
            }),
          );
    }

  pub classes_differ : (c d : ℕ) → c < q.states → d < q.states → Bisimilar q c d → c ≡ d
  classes_differ c d c_low d_low b =
      let s = some_state m q class m_ok quotient c c_low in
      let t = some_state m q class m_ok quotient d d_low in
      let R = b.relation in
      let here = subst (λ x. IsTrue (R x d)) (sym s.2) b.joined in
      let both = subst (λ y. IsTrue (R (class_of class s.0) y)) (sym t.2) here in
      sym s.2
      ∙ (quotient.classes.bisimilar s.0 t.0 s.1 t.1).1 (record {
        relation = by_class R b.is_bisimulation;
        is_bisimulation = pulled_back R b.is_bisimulation;
        joined = joins R b.is_bisimulation s.0 t.0 (record { source = s.1; target = t.1; classes = both });
      })
      ∙ t.2

  pub goes_on_too : (a : List ℕ) → IsTotal m a → IsTotal q a
  goes_on_too a total c low =
      let s = some_state m q class m_ok quotient c low in
      of_edge s.0 s.2 (list_any-member (leaves s.0 a) m.edges (total s.0 s.1))
    where
      of_edge : (s : ℕ) → class_of class s ≡ c → Passing (leaves s a) m.edges → IsTrue (goes_on q a c)
      of_edge s same found =
          let edge = subst (λ e. Contains m.edges e) (leaves_from s a found.item found.passes)
          (contains_of_member found.item m.edges found.member) in
          let there = class_edge m q class m_ok quotient s a found.item.target edge in
          subst (λ d. IsTrue (goes_on q a d)) same
          (member-list_any (leaves (class_of class s) a) (edge_from (class_of class s) a (class_of class found.item.target))
          q.edges
          (member_of_contains (edge_from (class_of class s) a (class_of class found.item.target)) q.edges there)
          (from_leaves (class_of class s) a (class_of class found.item.target)))

pub reduced : Reduced
reduced m q class m_ok quotient c d c_low d_low b = classes_differ m q class m_ok quotient c d c_low d_low b

pub total_kept : TotalKept
total_kept m q class m_ok quotient a total = goes_on_too m q class m_ok quotient a total
