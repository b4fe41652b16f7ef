-- Two graphs of a formula of PDL in a sense are alike.
--
--   same_in, program_same == the nodes of a formula, or of a program, that stands at a place in both are the same
--   alike                 == so are the graphs
use Rattle.std.proofs.Common.{ℕ, ◌+◌, Bool, true, false, not, List, refl, sym, ◌∙◌}
use Rattle.ml_graph.specs.Graph.{Graph}
use Rattle.ml_graph.specs.declared.node.Node.TheVariants as node
use Rattle.ml_pdl.specs.Formula.{Formula, Const, Prop, Not, Binary, Modal, Repeat, Program, Act, Seq, Alt, Star, Test, occurrences, program_occurrences}
use Rattle.ml_nodes.specs.Nodes.{IsNode, constant, negative, positive}
use Rattle.ml_pdl_graph.specs.PdlGraph.{IsGraphOf, IsLiteral, ProgramStandsAt, StandsAt, box, diamond, dual, own, plain}
use Rattle.ml_text.specs.Operators.{weight}
use Rattle.ml_front.proofs.AlikeGraphs.{AreAlike, Range, SameNode, alike_of, one_occurrence, one_part, same_and, same_box}
use Rattle.ml_front.proofs.AlikeGraphs.{same_diamond, same_joined, same_literal, same_or, same_plain, two_parts}

module _ (g h : Graph) where
  abbrev P : ℕ → Type 0
  P = SameNode g h

  constants : (n : ℕ) (b : Bool) → IsNode g n (constant b) plain → IsNode h n (constant b) plain → P n
  constants n true x y = same_plain g h n node.True plain refl x y
  constants n false x y = same_plain g h n node.False plain refl x y

  literals : (n : ℕ) (name : List ℕ) (s : Bool) → IsLiteral g n name s → IsLiteral h n name s → P n
  literals n name s x y = same_literal g h n x.0 y.0 s plain name x.1 y.1 x.2 y.2

  ors : (n l r p : ℕ) → IsNode g n (node.Or l r) p → IsNode h n (node.Or l r) p → P n
  ors = same_or g h

  mutual
    same_in : (i : ℕ) (f : Formula) → StandsAt g i f → StandsAt h i f → Range P i (i + occurrences f)
    same_in i (Const b) x y =
        one_occurrence P i (constants (positive i) b x.0 y.0) (constants (negative i) (not b) x.1 y.1)
    same_in i (Prop p) x y =
        one_occurrence P i (literals (positive i) p true x.0 y.0) (literals (negative i) p false x.1 y.1)
    same_in i (Not f) x y =
        one_part P i (occurrences f) (same_and g h (positive i) (negative (i + 1)) (negative (i + 1)) plain x.0 y.0)
        (same_and g h (negative i) (positive (i + 1)) (positive (i + 1)) plain x.1 y.1) (same_in (i + 1) f x.2 y.2)
    same_in i (Binary op f e) x y =
        let l = i + weight op in
        two_parts P i (weight op) (occurrences f) (occurrences e) (same_joined g h plain op i l (l + occurrences f) x.0 y.0)
        (same_in l f x.1 y.1) (same_in (l + occurrences f) e x.2 y.2)
    same_in i (Modal m p f) x y =
        let l = i + 1 in
        let r = l + program_occurrences p in
        two_parts P i 1 (program_occurrences p) (occurrences f)
        (one_occurrence P i (same_and g h (positive i) (own m l) (own m l) plain x.0 y.0)
        (same_and g h (negative i) (dual m l) (dual m l) plain x.1 y.1))
        (program_same l (own m r) (dual m r) p x.2 y.2) (same_in r f x.3 y.3)
    same_in i (Repeat p) x y =
        let l = i + 1 in
        one_part P i (program_occurrences p) (same_and g h (positive i) (diamond l) (diamond l) 0 x.0 y.0)
        (same_and g h (negative i) (box l) (box l) 1 x.1 y.1) (program_same l (positive i) (negative i) p x.2 y.2)

    program_same : (i d b : ℕ) (p : Program) → ProgramStandsAt g i d b p → ProgramStandsAt h i d b p
        → Range P i (i + program_occurrences p)
    program_same i d b (Act a) x y =
        one_occurrence P i (same_diamond g h (diamond i) x.0 y.0 d plain a x.1 y.1 x.3 y.3)
        (same_box g h (box i) x.0 y.0 b plain a x.2 y.2 x.3 y.3)
    program_same i d b (Seq p q) x y =
        let l = i + 1 in
        let r = l + program_occurrences p in
        two_parts P i 1 (program_occurrences p) (program_occurrences q)
        (one_occurrence P i (same_and g h (diamond i) (diamond l) (diamond l) plain x.0 y.0)
        (same_and g h (box i) (box l) (box l) plain x.1 y.1))
        (program_same l (diamond r) (box r) p x.2 y.2) (program_same r d b q x.3 y.3)
    program_same i d b (Alt p q) x y =
        let l = i + 1 in
        let r = l + program_occurrences p in
        two_parts P i 1 (program_occurrences p) (program_occurrences q)
        (one_occurrence P i (ors (diamond i) (diamond l) (diamond r) plain x.0 y.0)
        (same_and g h (box i) (box l) (box r) plain x.1 y.1))
        (program_same l d b p x.2 y.2) (program_same r d b q x.3 y.3)
    program_same i d b (Star p) x y =
        let l = i + 1 in
        one_part P i (program_occurrences p) (ors (diamond i) d (diamond l) 3 x.0 y.0)
        (same_and g h (box i) b (box l) 2 x.1 y.1) (program_same l (diamond i) (box i) p x.2 y.2)
    program_same i d b (Test f) x y =
        let l = i + 1 in
        one_part P i (occurrences f) (same_and g h (diamond i) (positive l) d plain x.0 y.0)
        (ors (box i) (negative l) b plain x.1 y.1) (same_in l f x.2 y.2)

  pub alike : (f : Formula) (negated : Bool) → IsGraphOf g f negated → IsGraphOf h f negated → AreAlike g h
  alike f negated x y =
      alike_of g h (occurrences f) x.is_graph y.is_graph x.two_for_each y.two_for_each (x.root_is ∙ sym y.root_is)
      (same_in 0 f x.stands y.stands)
