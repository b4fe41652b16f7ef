-- The quotient, made of the classes of the states.
--
--   labels_more  == the labels of one state more, at its class
--   in_range     == labels and edges of classes are those of states of the quotient
--   merged       == what is built from them is the quotient
--   some_states, parts_in_range, quotient_is == the same, as the program has the classes
--   few_classes, small_classes == classes are few, and their numbers small
use Rattle.std.proofs.Common.{ℕ, ◌≡◌, ◌+◌, ◌^◌, ◌<◌, ◌≤◌, ◌↔◌, ◌⊎◌, inl, inr, true, List, [], ◌++◌, map, None, All, Contains, refl, sym, ap, ◌∙◌, subst, arith}
use Rattle.std.proofs.lemmas.Bool.{cases_eq}
use Rattle.ml_base.specs.declared.structure.Edge.{Edge}
use Rattle.ml_base.specs.Structure.{Structure, IsStructure, lists}
use Rattle.ml_lists.specs.Member.{IsMember}
use Rattle.ml_lists.proofs.Member.{member-append, member-append_left, member-append_right, member-map, Image, member-map_from, Place, member-place, member-All}
use Rattle.ml_lists.proofs.Members.{member_of_contains, contains_of_member}
use Rattle.ml_lists.proofs.Says.{same_truth}
use Rattle.ml_kripke.specs.Ordered.{IsOrdered}
use Rattle.ml_kripke.specs.Built.{IsBuiltFrom, first_bad_state}
use Rattle.ml_kripke.proofs.Range.{none_bad}
use Rattle.ml_bisim.specs.Bisimilar.{HasEdge}
use Rattle.ml_bisim.specs.Quotient.{AreClasses, IsQuotientOf, SomeEdge, class_of}
use Rattle.ml_bisim.specs.private.Merged.{AreClassLabels, between_classes}
use Rattle.ml_bisim.proofs.Classes.{edge_from, source_low, target_low}
use Rattle.ml_bisim.proofs.Labels.{listed, row}
use Rattle.ml_bisim.proofs.Turns.{runs_long, runs_low}

abbrev pub at_class : ℕ → List ℕ → ℕ × List ℕ
at_class c p = (c, p)

pub labels_none : (m : Structure) (class : List ℕ) → AreClassLabels m class 0 []
labels_none m class c p = ((λ h. absurd (member_of_contains (at_class c p) [] h)), (λ h. absurd (omega (arith, h.1))))

pub labels_more : (m : Structure) (class : List ℕ) (n : ℕ) (labels more : List (ℕ × List ℕ))
    → AreClassLabels m class n labels
    → more ≡ labels ++ map (at_class (class_of class n)) (row m n)
    → AreClassLabels m class (n + 1) more
labels_more m class n labels more are is c p = (there, back)
  where
    there : Contains more (at_class c p) → (s : ℕ) × (s < n + 1) × (class_of class s ≡ c) × Contains (row m s) p
    there h = of_part (member-append (at_class c p) labels (map (at_class (class_of class n)) (row m n))
        (member_of_contains (at_class c p) (labels ++ map (at_class (class_of class n)) (row m n))
        (subst (λ ls. Contains ls (at_class c p)) is h)))
      where
        of_old : ((s : ℕ) × (s < n) × (class_of class s ≡ c) × Contains (row m s) p)
            → (s : ℕ) × (s < n + 1) × (class_of class s ≡ c) × Contains (row m s) p
        of_old o = (o.0, omega (arith, o.1), o.2, o.3)

        of_image : Image (at_class (class_of class n)) (at_class c p) (row m n)
            → (s : ℕ) × (s < n + 1) × (class_of class s ≡ c) × Contains (row m s) p
        of_image i =
            let classes : c ≡ class_of class n = ap (λ (l : ℕ × List ℕ). l.0) i.holds in
            let names : p ≡ i.from = ap (λ (l : ℕ × List ℕ). l.1) i.holds in (
              n,
              omega arith,
              sym classes,
              subst (λ q. Contains (row m n) q) (sym names)
                  (contains_of_member i.from (row m n) i.member),
            )

        of_part : IsMember (at_class c p) labels ⊎ IsMember (at_class c p) (map (at_class (class_of class n)) (row m n))
            → (s : ℕ) × (s < n + 1) × (class_of class s ≡ c) × Contains (row m s) p
        of_part (inl old) = of_old ((are c p).0 (contains_of_member (at_class c p) labels old))
        of_part (inr new) = of_image (member-map_from (at_class (class_of class n)) (at_class c p) (row m n) new)

    back : ((s : ℕ) × (s < n + 1) × (class_of class s ≡ c) × Contains (row m s) p) → Contains more (at_class c p)
    back o = subst (λ ls. Contains ls (at_class c p)) (sym is)
        (contains_of_member (at_class c p) (labels ++ map (at_class (class_of class n)) (row m n)) (by_case (cases_eq o.0 n)))
      where
        by_case : (o.0 ≡ n) ⊎ (o.0 ≡ n → ⊥) → IsMember (at_class c p) (labels ++ map (at_class (class_of class n)) (row m n))
        by_case (inr other) =
            member-append_left (at_class c p) labels (map (at_class (class_of class n)) (row m n))
            (member_of_contains (at_class c p) labels ((are c p).1 (o.0, omega (arith, o.1), o.2, o.3)))
        by_case (inl same) =
            let in_row = subst (λ s. Contains (row m s) p) same o.3 in
            let classes : class_of class n ≡ c = ap (class_of class) (sym same) ∙ o.2 in
            member-append_right (at_class c p) labels (map (at_class (class_of class n)) (row m n))
            (subst (λ d. IsMember (d, p) (map (at_class (class_of class n)) (row m n))) classes
            (member-map (at_class (class_of class n)) p (row m n) (member_of_contains p (row m n) in_row)))

module _ (m : Structure) (m_ok : IsStructure m) (class : List ℕ) (n : ℕ) (classes : AreClasses m n class)
    (labels : List (ℕ × List ℕ)) (are : AreClassLabels m class m.states labels) (edges : List Edge)
    (between : edges ≡ map (between_classes class) m.edges) where
  class_low : (s : ℕ) → s < m.states → class_of class s < n
  class_low s low = runs_low 0 n class classes.in_turn s (omega (arith, classes.each_state))

  pub some_class : 0 < n
  some_class = omega (arith, class_low 0 m_ok.has_state)

  -- an edge of classes is one of states
  edge_of : (e : Edge) → IsMember e edges → Image (between_classes class) e m.edges
  edge_of e h = member-map_from (between_classes class) e m.edges (subst (λ es. IsMember e es) between h)

  pub in_range : first_bad_state n labels edges ≡ None
  in_range = none_bad n labels edges label_low (λ e h. of_image e (edge_of e h))
    where
      label_low : (label : ℕ × List ℕ) → IsMember label labels → label.0 < n
      label_low label h =
          let there = (are label.0 label.1).0 (contains_of_member label labels h) in
          subst (λ c. c < n) there.2 (class_low there.0 there.1)

      of_image : (e : Edge) → Image (between_classes class) e m.edges → (e.source < n) × (e.target < n)
      of_image e i =
          let there = contains_of_member i.from m.edges i.member in (
            subst (λ c. c < n) (sym (ap (λ (f : Edge). f.source) i.holds))
                (class_low i.from.source (source_low m m_ok i.from.source i.from.action i.from.target there)),
            subst (λ c. c < n) (sym (ap (λ (f : Edge). f.target) i.holds))
                (class_low i.from.target (target_low m m_ok i.from.source i.from.action i.from.target there)),
          )

  module _ (q : Structure) (q_ok : IsStructure q) (q_ordered : IsOrdered q) (built : IsBuiltFrom n labels edges q) where
    same_labels : (s : ℕ) → s < m.states → (p : List ℕ) → lists q (class_of class s) p ≡ lists m s p
    same_labels s low p = same_truth (lists q (class_of class s) p) (lists m s p)
        (λ yes. of_label ((are (class_of class s) p).0
        ((built.has_labels (class_of class s) p).0 ((listed q (class_of class s) p).0 yes))))
        (λ yes. (listed q (class_of class s) p).1 ((built.has_labels (class_of class s) p).1
        ((are (class_of class s) p).1 (s, low, refl, (listed m s p).0 yes))))
      where
        of_label : ((t : ℕ) × (t < m.states) × (class_of class t ≡ class_of class s) × Contains (row m t) p)
            → lists m s p ≡ true
        of_label o =
            let b = (classes.bisimilar o.0 s o.1 low).0 o.2 in
            sym (b.is_bisimulation.same_labels o.0 s b.joined p) ∙ (listed m o.0 p).1 o.3

    same_edges : (c : ℕ) (a : List ℕ) (d : ℕ) → HasEdge q c a d ↔ SomeEdge m class c a d
    same_edges c a d = (
      (λ h. of_image (edge_of (edge_from c a d)
          (member_of_contains (edge_from c a d) edges ((built.has_edges (edge_from c a d)).0 h)))),
      (λ some. of_some some.0 some.1 some.2 some.3 some.4),
    )
      where
        of_image : Image (between_classes class) (edge_from c a d) m.edges → SomeEdge m class c a d
        of_image i =
            let action : a ≡ i.from.action = ap (λ (e : Edge). e.action) i.holds in (
              i.from.source,
              i.from.target,
              subst (λ b. HasEdge m i.from.source b i.from.target) (sym action)
                  (contains_of_member i.from m.edges i.member),
              sym (ap (λ (e : Edge). e.source) i.holds),
              sym (ap (λ (e : Edge). e.target) i.holds),
            )

        of_some : (s t : ℕ) → HasEdge m s a t → class_of class s ≡ c → class_of class t ≡ d → HasEdge q c a d
        of_some s t edge at_s at_t =
            let same : edge_from (class_of class s) a (class_of class t) ≡ edge_from c a d =
            λ i. record { source = at_s i; action = a; target = at_t i } in
            (built.has_edges (edge_from c a d)).1
            (contains_of_member (edge_from c a d) edges (subst (λ es. IsMember (edge_from c a d) es) (sym between)
            (subst (λ e. IsMember e (map (between_classes class) m.edges)) same
            (member-map (between_classes class) (edge_from s a t) m.edges
            (member_of_contains (edge_from s a t) m.edges edge)))))

    pub merged : IsQuotientOf m class q
    merged = record {
      is_structure = q_ok;
      is_ordered = q_ordered;
      classes = subst (λ k. AreClasses m k class) (sym built.has_states) classes;
      labels = same_labels;
      edges = same_edges;
    }

-- the same, as the program has the classes: as lists that are equal
module _ (m : Structure) (m_ok : IsStructure m) (n : ℕ) (numbers lent narrow for_labels for_edges : List ℕ)
    (classes : AreClasses m n numbers) (e1 : lent ≡ numbers) (e : narrow ≡ lent) where
  class_classes : AreClasses m n narrow
  class_classes = subst (AreClasses m n) (sym (e ∙ e1)) classes

  module _ (e2 : for_labels ≡ narrow) (e3 : for_edges ≡ narrow) (labels : List (ℕ × List ℕ))
      (are : AreClassLabels m for_labels m.states labels) (edges : List Edge)
      (between : edges ≡ map (between_classes for_edges) m.edges) where
    labels_are : AreClassLabels m narrow m.states labels
    labels_are = subst (λ xs. AreClassLabels m xs m.states labels) e2 are

    edges_are : edges ≡ map (between_classes narrow) m.edges
    edges_are = between ∙ ap (λ xs. map (between_classes xs) m.edges) e3

    pub some_states : 0 < n
    some_states = some_class m m_ok narrow n class_classes labels labels_are edges edges_are

    pub parts_in_range : first_bad_state n labels edges ≡ None
    parts_in_range = in_range m m_ok narrow n class_classes labels labels_are edges edges_are

    pub quotient_is : (q : Structure) → IsStructure q → IsOrdered q → IsBuiltFrom n labels edges q → IsQuotientOf m narrow q
    quotient_is q q_ok q_ordered built =
        merged m m_ok narrow n class_classes labels labels_are edges edges_are q q_ok q_ordered built

-- there are no more classes than states
pub few_classes : (m : Structure) (n : ℕ) (class : List ℕ) → AreClasses m n class → n ≤ m.states
few_classes m n class classes = omega (arith, runs_long 0 n class classes.in_turn, classes.each_state)

pub small_classes : (m : Structure) (n : ℕ) (class lent : List ℕ) → AreClasses m n class → lent ≡ class → m.states < 2 ^ 32
    → All (λ k. k < 2 ^ 32) lent
small_classes m n class lent classes same small = member-All (λ k. k < 2 ^ 32) lent (λ k h.
    of_place k (member-place k class (subst (IsMember k) same h)))
  where
    of_place : (k : ℕ) → Place k class → k < 2 ^ 32
    of_place k p =
        let low = runs_low 0 n class classes.in_turn p.place p.below in
        let few = few_classes m n class classes in
        let is = p.holds 0 in
        omega (arith, low, few, is, small)
