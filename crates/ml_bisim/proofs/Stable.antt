-- A partition in which each state is settled.
--
--   finer_is       == what a round makes of a partition is one again
--   stable_is      == where all states are settled, states of one class are bisimilar
use Rattle.std.proofs.Common.{ℕ, ◌≡◌, ◌<◌, ◌↔◌, ◌==◌, ◌&&◌, Bool, true, nat_eq, nat_lt, List, get_or, IsTrue, ◌∙◌, arith, lt-ltb}
use Rattle.std.proofs.lemmas.Bool.{and_parts, and_from, eqb-true, ltb-true}
use Rattle.std.proofs.lemmas.Bool.Decides.{nat_tests}
use Rattle.std.proofs.lemmas.Option.{slice_get-get_or}
use Rattle.ml_base.specs.Structure.{Structure, IsStructure}
use Rattle.ml_bisim.specs.Bisimilar.{Bisimilar, IsBisimulation}
use Rattle.ml_bisim.specs.Quotient.{AreClasses, class_of}
use Rattle.ml_bisim.specs.private.Numbers.{AreNumbers}
use Rattle.ml_bisim.specs.private.Rounds.{IsFiner, IsPartition}
use Rattle.ml_bisim.specs.private.Signatures.{SameSteps}
use Rattle.ml_bisim.proofs.Classes.{target_low}
use Rattle.ml_bisim.proofs.Parts.{number_itself}

module _ (m : Structure) (m_ok : IsStructure m) (class : List ℕ) (part : IsPartition m class) where
  -- bisimilar states match each other's edges
  match : (s t : ℕ) → s < m.states → t < m.states → Bisimilar m s t → SameSteps m class s t
  match s t s_low t_low b = record {
    forth = λ a x edge.
        let there = b.is_bisimulation.forth s t b.joined a x edge in (
          there.0,
          there.1,
          part.coarse x there.0 (target_low m m_ok s a x edge) (target_low m m_ok t a there.0 there.1)
              (record { relation = b.relation; is_bisimulation = b.is_bisimulation; joined = there.2 }),
        );
    back = λ a y edge.
        let there = b.is_bisimulation.back s t b.joined a y edge in (
          there.0,
          there.1,
          part.coarse there.0 y (target_low m m_ok s a there.0 there.1) (target_low m m_ok t a y edge)
              (record { relation = b.relation; is_bisimulation = b.is_bisimulation; joined = there.2 }),
        );
  }

  pub finer_is : (ns : List ℕ) → IsFiner m class ns → IsPartition m ns
  finer_is ns finer = record {
    each_state = finer.each_state;
    coarse = λ s t s_low t_low b.
        (finer.same s t s_low t_low).1 (part.coarse s t s_low t_low b, match s t s_low t_low b);
    same_labels = λ s t s_low t_low e. part.same_labels s t s_low t_low ((finer.same s t s_low t_low).0 e).0;
  }

  -- states of one class
  abbrev in_class : ℕ → ℕ → Bool
  in_class s t = nat_lt s m.states && (nat_lt t m.states && (class_of class s == class_of class t))

  record AreTogether (s t : ℕ) : Type 0 where
    pub source : s < m.states
    pub target : t < m.states
    pub classes : class_of class s ≡ class_of class t

  same_is : (x y : ℕ) → x ≡ y → (x == y) ≡ true
  same_is x y e = grind (arith, nat_tests)

  together : (s t : ℕ) → IsTrue (in_class s t) → AreTogether s t
  together s t e =
      let first = and_parts (nat_lt s m.states) (nat_lt t m.states && (class_of class s == class_of class t)) e in
      let rest = and_parts (nat_lt t m.states) (class_of class s == class_of class t) first.1 in
      record {
        source = ltb-true s m.states first.0;
        target = ltb-true t m.states rest.0;
        classes = eqb-true (class_of class s) (class_of class t) rest.1;
      }

  joins : (s t : ℕ) → AreTogether s t → IsTrue (in_class s t)
  joins s t j =
      and_from (nat_lt s m.states) (nat_lt t m.states && (class_of class s == class_of class t))
      (lt-ltb s m.states j.source)
      (and_from (nat_lt t m.states) (class_of class s == class_of class t) (lt-ltb t m.states j.target)
      (same_is (class_of class s) (class_of class t) j.classes))

  abbrev AllMatch : Type 0
  AllMatch = (s t : ℕ) → s < m.states → t < m.states → class_of class s ≡ class_of class t → SameSteps m class s t

  steps : AllMatch → (s t : ℕ) → AreTogether s t → SameSteps m class s t
  steps all s t j = all s t j.source j.target j.classes

  is_bisimulation : AllMatch → IsBisimulation m in_class
  is_bisimulation all = record {
    same_labels = λ s t e. let j = together s t e in part.same_labels s t j.source j.target j.classes;
    forth = λ s t e a x edge.
        let there = (steps all s t (together s t e)).forth a x edge in (
          there.0,
          there.1,
          joins x there.0 (record {
            source = target_low m m_ok s a x edge;
            target = target_low m m_ok t a there.0 there.1;
            classes = there.2;
          }),
        );
    back = λ s t e a y edge.
        let there = (steps all s t (together s t e)).back a y edge in (
          there.0,
          there.1,
          joins there.0 y (record {
            source = target_low m m_ok s a there.0 there.1;
            target = target_low m m_ok t a y edge;
            classes = there.2;
          }),
        );
  }

  pub stable_is : AllMatch → (ns : List ℕ) (n : ℕ) → AreNumbers nat_eq class ns n → AreClasses m n ns
  stable_is all ns n are = record {
    each_state = are.each_key ∙ part.each_state;
    bisimilar = λ s t s_low t_low. (
      (λ e. record {
        relation = in_class;
        is_bisimulation = is_bisimulation all;
        joined = joins s t (record {
          source = s_low;
          target = t_low;
          classes = eqb-true (class_of class s) (class_of class t) ((same s t s_low t_low).0 e);
        });
      }),
      (λ b. (same s t s_low t_low).1 (number_itself (class_of class s) (class_of class t) (part.coarse s t s_low t_low b))),
    );
    in_turn = are.in_turn;
  }
    where
      same : (s t : ℕ) → s < m.states → t < m.states
          → (get_or ns s 0 ≡ get_or ns t 0) ↔ (nat_eq (class_of class s) (class_of class t) ≡ true)
      same s t s_low t_low =
          are.same s t (class_of class s) (class_of class t)
          (slice_get-get_or class s 0 (omega (arith, s_low, part.each_state)))
          (slice_get-get_or class t 0 (omega (arith, t_low, part.each_state)))
