-- The graphs of closures have names and priorities that a program holds.
--
--   IsNamedForm f == the proposition of the form f, if it has one, is a name
--   held          == so it is where the forms of all values that are reached are named, and priorities fit
use Rattle.std.proofs.Common.{◌≡◌, ℕ, ◌<◌, Bool, true, false, List, refl, sym, subst, ◌∙◌, arith}
use Rattle.ml_base.specs.Name.{IsName, IsAction}
use Rattle.ml_lists.proofs.Member.{member-place, member_of_get}
use Rattle.ml_graph.specs.Graph.{Graph, node_at, prop_at, size}
use Rattle.ml_graph.specs.declared.node.Node.{Node}
use Rattle.ml_graph.specs.declared.node.Node.TheVariants as node
use Rattle.ml_nodes.specs.ClosureGraph.{Form, Forms, Constant, Literal, And, Or, Diamond, Square, HasForm, IsGraphFrom, IsNumberedBy, IsReached}
use Rattle.ml_nodes.proofs.ClosureNodes.{diamond_action, places, value_of}
use Rattle.ml_nodes.proofs.HeldNames.{Fits, IsHeld}

abbrev pub IsNamedForm : {P : Type 0} → Form P → Type 0
IsNamedForm (Literal name positive) = IsName name
IsNamedForm _ = Unit {0}

module _ {P : Type 0} (g : Graph) (ps : List P) (v : Node) where
  literal_named : (f : Form P) (p : ℕ) (sign : Bool)
      → IsNamedForm f
      → HasForm g ps v f
      → v ≡ node.Lit p sign
      → IsName (prop_at g p)
  literal_named (Constant true) p sign named h is = absurd (let wrong = sym h ∙ is in cc)
  literal_named (Constant false) p sign named h is = absurd (let wrong = sym h ∙ is in cc)
  literal_named (Literal name positive) p sign named h is =
      let one = sym h.1 ∙ is in
      let same : h.0 ≡ p = cc in
      subst (λ q. IsName (prop_at g q)) same (subst IsName (sym h.2) named)
  literal_named (And q r) p sign named h is = absurd (let wrong = sym h.4 ∙ is in cc)
  literal_named (Or q r) p sign named h is = absurd (let wrong = sym h.4 ∙ is in cc)
  literal_named (Diamond q) p sign named h is = absurd (let wrong = sym h.3 ∙ is in cc)
  literal_named (Square q) p sign named h is = absurd (let wrong = sym h.3 ∙ is in cc)

module _ {P : Type 0} (F : Forms P) (root : P) (g : Graph) (is_g : IsGraphFrom F g root) where
  abbrev N : IsNumberedBy F g root (places F root g is_g)
  N = (is_g.is_numbered).1

  pub held : ((p : P) → IsReached F root p → IsNamedForm (F.form_of p)) → ((p : P) → Fits (F.priority_of p)) → IsHeld g
  held named low = record {
    literals = λ n p positive inside lit.
        let x = value_of F root g is_g n inside in
        let reached = ((N.is_closure).are_reached x.value).0 (member_of_get (places F root g is_g) n x.value x.stands) in
        literal_named g (places F root g is_g) (node_at g n) (F.form_of x.value) p positive (named x.value reached)
        (N.has_forms n x.value x.stands) lit;
    diamonds = λ n a to inside diamond. subst IsAction (sym (diamond_action F root g is_g n a to inside diamond)) refl;
    priorities = λ x m.
        let f = member-place x g.priorities m in
        let inside : f.place < size g = omega (arith, f.below, is_g.is_graph.priorities) in
        let v = value_of F root g is_g f.place inside in
        subst Fits (sym (N.has_priorities f.place v.value v.stands) ∙ f.holds 0) (low v.value);
  }
