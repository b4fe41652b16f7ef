-- Each structure has a quotient.
--
--   some_labels    == the labels of the states, each at the class of its state
--   some_quotient  == the theorem
use Rattle.std.proofs.Common.{◌≡◌, ℕ, zero, suc, ◌+◌, List, [], ◌++◌, map, refl, subst, arith}
use Rattle.ml_base.specs.Structure.{Structure, IsStructure}
use Rattle.ml_extract.proofs.BuiltStructures.{some_structure}
use Rattle.ml_bisim.specs.Quotient.{AreClasses, IsQuotientOf, class_of}
use Rattle.ml_bisim.specs.private.Merged.{AreClassLabels, between_classes}
use Rattle.ml_bisim.proofs.Labels.{row}
use Rattle.ml_bisim.proofs.Merged.{at_class, in_range, labels_more, labels_none, merged, some_class}
use Rattle.ml_bisim.proofs.SomeClasses.{some_classes}

module _ (m : Structure) (class : List ℕ) where
  some_labels : (n : ℕ) → (labels : List (ℕ × List ℕ)) × AreClassLabels m class n labels
  some_labels zero = ([], labels_none m class)
  some_labels (suc n) =
      let before = some_labels n in
      let more = before.0 ++ map (at_class (class_of class n)) (row m n) in
      let e : n + 1 ≡ suc n = omega arith in
      (more, subst (λ k. AreClassLabels m class k more) e (labels_more m class n before.0 more before.1 refl))

pub record QuotientFound (m : Structure) : Type 0 where
  pub structure : Structure
  pub class : List ℕ
  pub is_quotient : IsQuotientOf m class structure

pub some_quotient : (m : Structure) → IsStructure m → QuotientFound m
some_quotient m ok = of_classes (some_classes m ok)
  where
    of_classes : (n : ℕ) × ((class : List ℕ) × AreClasses m n class) → QuotientFound m
    of_classes (n, rest) =
        let class = rest.0 in
        let labels = some_labels m class m.states in
        let edges = map (between_classes class) m.edges in
        let built =
        some_structure n labels.0 edges (some_class m ok class n rest.1 labels.0 labels.1 edges refl)
        (in_range m ok class n rest.1 labels.0 labels.1 edges refl) in
        record {
          structure = built.structure;
          class = class;
          is_quotient =
              merged m ok class n rest.1 labels.0 labels.1 edges refl built.structure built.is_structure built.is_ordered
              built.is_built;
        }
