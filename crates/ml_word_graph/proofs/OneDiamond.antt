-- Of the nodes of a formula's graph one alone is a diamond, and the root asks for edges.
--
--   asks         == the root asks that each state have an edge
--   IsDiamond f  == the form f is a diamond
--   only_diamond == the node that asks for an edge is the only one
--   one_diamond  == so the graph has one diamond at most
use Rattle.std.proofs.Common.{◌≡◌, ℕ, ◌<◌, Bool, true, false, not, List, Some, refl, sym, ap, ◌∙◌}
use Rattle.std.specs.List.{slice_get}
use Rattle.ml_graph.specs.Diamonds.{HasOneDiamond}
use Rattle.ml_graph.specs.Graph.{Graph, node_at, size}
use Rattle.ml_graph.specs.declared.node.Node.{Node}
use Rattle.ml_graph.specs.declared.node.Node.TheVariants as node
use Rattle.ml_nodes.proofs.ClosureNodes.{AsksForEdges, value_of}
use Rattle.ml_text.specs.declared.token.Operator.{Operator}
use Rattle.ml_text.specs.declared.token.Operator.TheVariants as operator
use Rattle.ml_ctl.specs.Formula.{Formula, Const, Prop, Not, Binary, Temporal, Paired, Quantified}
use Rattle.ml_ctl.specs.declared.term.Tense.TheVariants as tense
use Rattle.ml_ctl.specs.declared.term.Pairing.{Pairing}
use Rattle.ml_ctl.specs.declared.term.Pairing.TheVariants as pairing
use Rattle.ml_word_graph.specs.WordGraph.{Place, Form, Root, Total, HasEdge, LeadsOn, True, Now, Later, Rest, Both, Neither}
use Rattle.ml_word_graph.specs.WordGraph.{Constant, Literal, And, Or, Diamond, Square, HasForm, IsGraphOf, IsNumberedBy}
use Rattle.ml_word_graph.specs.WordGraph.{all_of, form_of, form_of_connective, form_of_formula, form_of_rest, forms, start_of}

pub asks : (start : Place) → AsksForEdges forms (Root start)
asks start = record {
  start = start;
  total = Total;
  has_edge = HasEdge;
  leads_on = LeadsOn;
  anything = True;
  root_is = refl;
  total_is = refl;
  has_edge_is = refl;
  leads_on_is = refl;
}

abbrev IsDiamond : Form → Type 0
IsDiamond (Diamond p) = Unit {0}
IsDiamond _ = ⊥

not_all : (sign : Bool) (l r : Place) → IsDiamond (all_of sign l r) → ⊥
not_all true l r none = none
not_all false l r none = none

not_connective : (op : Operator) (sign : Bool) (l r both neither : Bool → Place)
    → IsDiamond (form_of_connective op sign l r both neither)
    → ⊥
not_connective operator.And sign l r both neither d = not_all sign (l sign) (r sign) d
not_connective operator.Or sign l r both neither d = not_all (not sign) (l sign) (r sign) d
not_connective operator.Implies sign l r both neither d = not_all (not sign) (l (not sign)) (r sign) d
not_connective operator.Iff sign l r both neither none = none

not_formula : (i : ℕ) (f : Formula) (sign : Bool) → IsDiamond (form_of_formula i f sign) → ⊥
not_formula i (Const b) sign none = none
not_formula i (Prop p) sign none = none
not_formula i (Not f) sign none = none
not_formula i (Binary op f g) sign d = not_connective op sign _ _ _ _ d
not_formula i (Temporal tense.Next f) sign none = none
not_formula i (Temporal tense.Finally f) sign d = not_all (not sign) _ _ d
not_formula i (Temporal tense.Globally f) sign d = not_all sign _ _ d
not_formula i (Paired pairing.Until f g) sign d = not_all (not sign) _ _ d
not_formula i (Paired pairing.Weak f g) sign d = not_all (not sign) _ _ d
not_formula i (Paired pairing.Release f g) sign d = not_all sign _ _ d
not_formula i (Quantified q f) sign none = none

not_rest : (k : Pairing) (sign : Bool) (l r : Place) → IsDiamond (form_of_rest k sign l r) → ⊥
not_rest pairing.Until sign l r d = not_all sign l r d
not_rest pairing.Weak sign l r d = not_all sign l r d
not_rest pairing.Release sign l r d = not_all (not sign) l r d

only_diamond : (p : Place) → IsDiamond (form_of p) → p ≡ HasEdge
only_diamond (Root start) none = absurd none
only_diamond Total none = absurd none
only_diamond HasEdge d = refl
only_diamond LeadsOn none = absurd none
only_diamond True none = absurd none
only_diamond (Now i f sign) d = absurd (not_formula i f sign d)
only_diamond (Later i f sign) none = absurd none
only_diamond (Rest i k f g sign) d = absurd (not_rest k sign _ _ d)
only_diamond (Both i f g sign) none = absurd none
only_diamond (Neither i f g sign) none = absurd none

-- a node that is a diamond has such a form
of_diamond : (g : Graph) (ps : List Place) (v : Node) (f : Form) (a c : ℕ) → HasForm g ps v f → v ≡ node.Diamond a c → IsDiamond f
of_diamond g ps v (Constant true) a c h e = let wrong = sym h ∙ e in absurd (cc)
of_diamond g ps v (Constant false) a c h e = let wrong = sym h ∙ e in absurd (cc)
of_diamond g ps v (Literal name sign) a c h e = let wrong = sym h.1 ∙ e in absurd (cc)
of_diamond g ps v (And l r) a c h e = let wrong = sym h.4 ∙ e in absurd (cc)
of_diamond g ps v (Or l r) a c h e = let wrong = sym h.4 ∙ e in absurd (cc)
of_diamond g ps v (Diamond p) a c h e = tt
of_diamond g ps v (Square p) a c h e = let wrong = sym h.3 ∙ e in absurd (cc)

pub one_diamond : (f : Formula) (negated : Bool) (g : Graph) → IsGraphOf g f negated → HasOneDiamond g
one_diamond f negated g is d e a b c k low under first second =
    (N.is_closure).once d e HasEdge (at d a c low first) (at e b k under second)
  where
    N : IsNumberedBy g (Root (start_of f negated)) (is.is_numbered).0
    N = (is.is_numbered).1

    at : (n a c : ℕ) → n < size g → node_at g n ≡ node.Diamond a c → slice_get (is.is_numbered).0 n ≡ Some HasEdge
    at n a c inside diamond =
        let x = value_of forms (Root (start_of f negated)) g is n inside in
        x.stands
        ∙ ap Some
        (only_diamond x.value
        (of_diamond g (is.is_numbered).0 (node_at g n) (form_of x.value) a c (N.has_forms n x.value x.stands) diamond))
