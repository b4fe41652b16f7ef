-- Two graphs of a formula of the mu-calculus in a sense are alike.
--
--   same_in  == the nodes of a formula that stands at a place in both are the same
--   alike    == so are the graphs
use Rattle.std.proofs.Common.{ℕ, ◌+◌, ◌*◌, Bool, true, false, not, List, [], ◌∷◌, length, refl, sym, ◌∙◌}
use Rattle.ml_graph.specs.Graph.{Graph}
use Rattle.ml_graph.specs.declared.node.Node.TheVariants as node
use Rattle.ml_mu.specs.Formula.{Formula, Const, Prop, Var, Not, Binary, Modal, Binder, occurrences}
use Rattle.ml_mu.specs.declared.term.Modality.{Modality}
use Rattle.ml_mu.specs.declared.term.Modality.TheVariants.{Diamond, Square}
use Rattle.ml_nodes.specs.Nodes.{IsNode, constant, negative, positive}
use Rattle.ml_mu_graph.specs.MuGraph.{Around, IsGraphOf, IsLiteral, IsModality, StandsAt, binder_of, binder_priority, binders, dual, opposite}
use Rattle.ml_text.specs.Operators.{weight}
use Rattle.ml_front.proofs.AlikeGraphs.{AreAlike, Range, SameNode, alike_of, one_occurrence, one_part, same_and, same_box}
use Rattle.ml_front.proofs.AlikeGraphs.{same_diamond, same_joined, same_literal, same_plain, two_parts}

module _ (g h : Graph) where
  abbrev P : ℕ → Type 0
  P = SameNode g h

  constants : (n : ℕ) (b : Bool) (p : ℕ) → IsNode g n (constant b) p → IsNode h n (constant b) p → P n
  constants n true p x y = same_plain g h n node.True p refl x y
  constants n false p x y = same_plain g h n node.False p refl x y

  literals : (n : ℕ) (name : List ℕ) (s : Bool) (p : ℕ) → IsLiteral g n name s p → IsLiteral h n name s p → P n
  literals n name s p x y = same_literal g h n x.0 y.0 s p name x.1 y.1 x.2 y.2

  modalities : (n : ℕ) (m : Modality) (name : List ℕ) (t p : ℕ)
      → IsModality g n m name t p
      → IsModality h n m name t p
      → P n
  modalities n Diamond name t p x y = same_diamond g h n x.0 y.0 t p name x.1 y.1 x.2 y.2
  modalities n Square name t p x y = same_box g h n x.0 y.0 t p name x.1 y.1 x.2 y.2

  same_in : (k : ℕ) (bs : Around) (i : ℕ) (f : Formula) → StandsAt g k bs i f → StandsAt h k bs i f
      → Range P i (i + occurrences f)
  same_in k bs i (Const b) x y =
      one_occurrence P i (constants (positive i) b k x.0 y.0) (constants (negative i) (not b) k x.1 y.1)
  same_in k bs i (Prop p) x y =
      one_occurrence P i (literals (positive i) p true k x.0 y.0) (literals (negative i) p false k x.1 y.1)
  same_in k bs i (Var v) x y =
      let b = binder_of bs v in
      one_occurrence P i (same_and g h (positive i) (positive b) (positive b) k x.0 y.0)
      (same_and g h (negative i) (negative b) (negative b) k x.1 y.1)
  same_in k bs i (Not f) x y =
      one_part P i (occurrences f) (same_and g h (positive i) (negative (i + 1)) (negative (i + 1)) k x.0 y.0)
      (same_and g h (negative i) (positive (i + 1)) (positive (i + 1)) k x.1 y.1) (same_in k bs (i + 1) f x.2 y.2)
  same_in k bs i (Binary op f e) x y =
      let l = i + weight op in
      two_parts P i (weight op) (occurrences f) (occurrences e) (same_joined g h k op i l (l + occurrences f) x.0 y.0)
      (same_in k bs l f x.1 y.1) (same_in k bs (l + occurrences f) e x.2 y.2)
  same_in k bs i (Modal m a f) x y =
      one_part P i (occurrences f) (modalities (positive i) m a (positive (i + 1)) k x.0 y.0)
      (modalities (negative i) (dual m) a (negative (i + 1)) k x.1 y.1) (same_in k bs (i + 1) f x.2 y.2)
  same_in k bs i (Binder q v f) x y =
      one_part P i (occurrences f)
      (same_and g h (positive i) (positive (i + 1)) (positive (i + 1)) (binder_priority q (length bs)) x.0 y.0)
      (same_and g h (negative i) (negative (i + 1)) (negative (i + 1)) (binder_priority (opposite q) (length bs)) x.1 y.1)
      (same_in k ((v, i) ∷ bs) (i + 1) f x.2 y.2)

  pub alike : (f : Formula) (negated : Bool) → IsGraphOf g f negated → IsGraphOf h f negated → AreAlike g h
  alike f negated x y =
      alike_of g h (occurrences f) x.is_graph y.is_graph x.two_for_each y.two_for_each (x.root_is ∙ sym y.root_is)
      (same_in (2 * binders f) [] 0 f x.stands y.stands)
