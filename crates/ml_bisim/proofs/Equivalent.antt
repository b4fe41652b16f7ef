-- Bisimilarity is an equivalence of states.
--
--   itself    == each state is bisimilar to itself
--   turned    == bisimilar states are so either way
--   through   == and so are those that are bisimilar to one state
use Rattle.std.proofs.Common.{ℕ, ◌<◌, ◌&&◌, Bool, nat_eq, IsTrue, refl, sym, ap, ◌∙◌, subst}
use Rattle.std.specs.List.{list_any, range_with_len}
use Rattle.std.proofs.lemmas.Bool.{and_parts, and_from, eqb-true}
use Rattle.ml_base.specs.Structure.{Structure, IsStructure, lists}
use Rattle.ml_lists.proofs.Member.{Passing, list_any-member, member-list_any}
use Rattle.ml_lists.proofs.Ranges.{member-range}
use Rattle.ml_bisim.specs.Bisimilar.{Bisimilar, HasEdge, IsBisimulation}
use Rattle.ml_bisim.proofs.Classes.{target_low}
use Rattle.ml_bisim.proofs.Parts.{number_itself}

module _ (m : Structure) where
  pub itself : (s : ℕ) → Bisimilar m s s
  itself s = record {
    relation = nat_eq;
    is_bisimulation = record {
      same_labels = λ u t e p. ap (λ v. lists m v p) (eqb-true u t e);
      forth = λ u t e a x edge.
          (x, subst (λ v. HasEdge m v a x) (eqb-true u t e) edge, number_itself x x refl);
      back = λ u t e a y edge.
          (y, subst (λ v. HasEdge m v a y) (sym (eqb-true u t e)) edge, number_itself y y refl);
    };
    joined = number_itself s s refl;
  }

  pub turned : (s t : ℕ) → Bisimilar m s t → Bisimilar m t s
  turned s t b =
      let is = b.is_bisimulation in
      record {
        relation = λ u v. b.relation v u;
        is_bisimulation = record {
          same_labels = λ u v e p. sym (is.same_labels v u e p);
          forth = λ u v e a x edge. is.back v u e a x edge;
          back = λ u v e a y edge. is.forth v u e a y edge;
        };
        joined = b.joined;
      }

  module _ (ok : IsStructure m) (R S : ℕ → ℕ → Bool) (R_is : IsBisimulation m R) (S_is : IsBisimulation m S) where
    abbrev by_way_of : ℕ → ℕ → ℕ → Bool
    by_way_of s u t = R s t && S t u

    -- some state between them is joined to both
    abbrev joins : ℕ → ℕ → Bool
    joins s u = list_any (by_way_of s u) (range_with_len 0 m.states)

    record Between (s u : ℕ) : Type 0 where
      pub state : ℕ
      pub first : IsTrue (R s state)
      pub second : IsTrue (S state u)

    between : (s u : ℕ) → IsTrue (joins s u) → Between s u
    between s u e = of_passing (list_any-member (by_way_of s u) (range_with_len 0 m.states) e)
      where
        of_passing : Passing (by_way_of s u) (range_with_len 0 m.states) → Between s u
        of_passing found =
            let parts = and_parts (R s found.item) (S found.item u) found.passes in
            record { state = found.item; first = parts.0; second = parts.1 }

    joined : (s t u : ℕ) → t < m.states → IsTrue (R s t) → IsTrue (S t u) → IsTrue (joins s u)
    joined s t u low first second =
        member-list_any (by_way_of s u) t (range_with_len 0 m.states) (member-range m.states t low)
        (and_from (R s t) (S t u) first second)

    pub composed : IsBisimulation m joins
    composed = record {
      same_labels = λ s u e p.
          let t = between s u e in R_is.same_labels s t.state t.first p ∙ S_is.same_labels t.state u t.second p;
      forth = λ s u e a x edge.
          let t = between s u e in
          let y = R_is.forth s t.state t.first a x edge in
          let z = S_is.forth t.state u t.second a y.0 y.1 in
          (z.0, z.1, joined x y.0 z.0 (target_low m ok t.state a y.0 y.1) y.2 z.2);
      back = λ s u e a z edge.
          let t = between s u e in
          let y = S_is.back t.state u t.second a z edge in
          let x = R_is.back s t.state t.first a y.0 y.1 in
          (x.0, x.1, joined x.0 y.0 z (target_low m ok t.state a y.0 y.1) x.2 y.2);
    }

  pub through : IsStructure m → (s t u : ℕ) → t < m.states → Bisimilar m s t → Bisimilar m t u → Bisimilar m s u
  through ok s t u low b c =
      let R = b.relation in
      let S = c.relation in
      record {
        relation = joins ok R S b.is_bisimulation c.is_bisimulation;
        is_bisimulation = composed ok R S b.is_bisimulation c.is_bisimulation;
        joined = joined ok R S b.is_bisimulation c.is_bisimulation s t u low b.joined c.joined;
      }
