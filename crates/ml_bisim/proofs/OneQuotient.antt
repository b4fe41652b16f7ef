-- A structure has one quotient.
--
--   one_quotient  == the law
use Rattle.std.proofs.Common.{ℕ, ◌≡◌, ◌<◌, ◌≤◌, ◌↔◌, ⊎_elim, List, [], length, Contains, sym, ◌∙◌, subst, arith}
use Rattle.std.proofs.lemmas.Bool.{cases_lt}
use Rattle.std.proofs.lemmas.List.{get_or_past}
use Rattle.ml_base.specs.declared.structure.Edge.{Edge}
use Rattle.ml_base.specs.Structure.{Structure, IsStructure, lists}
use Rattle.ml_lists.proofs.Members.{contains_none}
use Rattle.ml_kripke.proofs.OneStructure.{one_structure}
use Rattle.ml_bisim.specs.Laws.{OneQuotient}
use Rattle.ml_bisim.specs.Quotient.{AreClasses, IsQuotientOf, class_of}
use Rattle.ml_bisim.proofs.Labels.{listed, row}
use Rattle.ml_bisim.proofs.OneRun.{one_end, one_run}
use Rattle.ml_bisim.proofs.Turns.{runs_place}

-- classes of bisimilar states that are numbered in turn are determined
module _ (m : Structure) (n k : ℕ) (class other : List ℕ) (x : AreClasses m n class) (y : AreClasses m k other) where
  alike : (i j : ℕ) → i < length class → j < length class
      → (class_of class i ≡ class_of class j) ↔ (class_of other i ≡ class_of other j)
  alike i j i_in j_in =
      let i_low : i < m.states = omega (arith, i_in, x.each_state) in
      let j_low : j < m.states = omega (arith, j_in, x.each_state) in (
        (λ e. (y.bisimilar i j i_low j_low).1 ((x.bisimilar i j i_low j_low).0 e)),
        (λ e. (x.bisimilar i j i_low j_low).1 ((y.bisimilar i j i_low j_low).0 e)),
      )

  same_classes : class ≡ other
  same_classes = one_run n k class other x.in_turn y.in_turn (x.each_state ∙ sym y.each_state) alike

  same_count : n ≡ k
  same_count = one_end n k class other x.in_turn y.in_turn (x.each_state ∙ sym y.each_state) alike

module _ (m q r : Structure) (class : List ℕ) (x : IsQuotientOf m class q) (y : IsQuotientOf m class r)
    (same : q.states ≡ r.states) where
  no_label : (z : Structure) → IsStructure z → (s : ℕ) → z.states ≤ s → (p : List ℕ) → ¬ (Contains (row z s) p)
  no_label z ok s past p h =
      contains_none p (subst (λ ps. Contains ps p) (get_or_past z.labels s [] (omega (arith, ok.labels_states, past))) h)

  at_class : (s : ℕ) → s < m.states → (p : List ℕ) → Contains (row q (class_of class s)) p ↔ Contains (row r (class_of class s)) p
  at_class s low p =
      let one : lists q (class_of class s) p ≡ lists r (class_of class s) p = x.labels s low p ∙ sym (y.labels s low p) in (
        (λ h. (listed r (class_of class s) p).0 (sym one ∙ (listed q (class_of class s) p).1 h)),
        (λ h. (listed q (class_of class s) p).0 (one ∙ (listed r (class_of class s) p).1 h)),
      )

  same_labels : (c : ℕ) (p : List ℕ) → Contains (row q c) p ↔ Contains (row r c) p
  same_labels c p =
      ⊎_elim
      (λ (low : c < q.states).
      let found = runs_place q.states class x.classes.in_turn c low in
      subst (λ d. Contains (row q d) p ↔ Contains (row r d) p) found.2
      (at_class found.0 (omega (arith, found.1, x.classes.each_state)) p))
      (λ (past : q.states ≤ c). (
        (λ h. absurd (no_label q x.is_structure c past p h)),
        (λ h. absurd (no_label r y.is_structure c (omega (arith, past, same)) p h)),
      ))
      (cases_lt c q.states)

  same_edges : (e : Edge) → Contains q.edges e ↔ Contains r.edges e
  same_edges e = (
    (λ h. (y.edges e.source e.action e.target).1 ((x.edges e.source e.action e.target).0 h)),
    (λ h. (x.edges e.source e.action e.target).1 ((y.edges e.source e.action e.target).0 h)),
  )

  same_quotient : q ≡ r
  same_quotient =
      one_structure q r x.is_structure y.is_structure x.is_ordered y.is_ordered
      (record { states_same = same; labels_same = same_labels; edges_same = same_edges })

pub one_quotient : OneQuotient
one_quotient m q r class other x y =
    let same = same_classes m q.states r.states class other x.classes y.classes in (
      same,
      same_quotient m q r class x (subst (λ c. IsQuotientOf m c r) (sym same) y)
          (same_count m q.states r.states class other x.classes y.classes),
    )
