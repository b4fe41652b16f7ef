-- The modal graph of a formula of LTL that is read on single words.
--
-- Occurrences are numbered in preorder from 0: an operator before its operands, left before right; an iff takes three
-- numbers in a row. Each occurrence has a node for itself and one for its negation, `Now`, and an iff two more of each sign
-- for its two cases. Next is a square, whatever the sign, since the next state is unique. Each other temporal operator says
-- something of the state and of what it says itself at the next state: a node `Later` leads there, and the operators of two
-- operands put it together with their left operand in a node `Rest`. So these operators are cycles, and the priority of
-- `Now` says of which kind: 1 where what is asked has to come about some time, and 2 elsewhere.
--
-- The root asks beside the problem that each state have an edge. The graph is that of a closure: of the nodes, as values,
-- that are reached from the root (`ml_nodes/specs/ClosureGraph`).
--
--   Place                   == the nodes: the root and its part on edges, and those of occurrences, with their formulas
--   Form                    == what a node is, and to which nodes it leads
--   form_of p               == what the node p is
--   priority_of p           == the priority of the node p
--   forms                   == both
--   start_of f negated      == the node that a problem starts with
--   IsReached root p        == the node p is reached from the root
--   IsNumberedBy g root places == the nodes of g are those of the closure, numbered by their places
--   IsGraphOf g f negated   == g is the graph of f, or of its negation
use Rattle.std.specs.Prelude.{ℕ, ◌+◌, Bool, true, false, not, if◌then◌else◌, List}
use Rattle.std.specs.Bool.{beq}
use Rattle.ml_graph.specs.Graph.{Graph}
use Rattle.ml_nodes.specs.ClosureGraph as closure
pub use Rattle.ml_nodes.specs.ClosureGraph.{Constant, Literal, And, Or, Diamond, Square, all_of, one_of, form_of_connective, IsNumberOf, HasForm, at_root, behind, children, row_of}
use Rattle.ml_text.specs.Operators.{weight}
use Rattle.ml_ctl.specs.Formula.{Formula, Const, Prop, Not, Binary, Temporal, Paired, Quantified, occurrences}
use Rattle.ml_ctl.specs.declared.term.Tense.{Tense}
use Rattle.ml_ctl.specs.declared.term.Tense.TheVariants as tense
use Rattle.ml_ctl.specs.declared.term.Pairing.{Pairing}
use Rattle.ml_ctl.specs.declared.term.Pairing.TheVariants as pairing
pub use Rattle.ml_ctl.specs.Eventualities.{is_eventual}

pub data Place : Type 0 where
  -- the root, before the node that the problem starts with
  Root : (start : Place) → Place
  -- each state has an edge, and so has each that is reached: the two parts of this
  Total HasEdge LeadsOn : Place
  -- the constant that no occurrence has
  True : Place
  -- the formula at an occurrence, or its negation; and that it says so at the next state
  Now Later : (number : ℕ) → Formula → (positive : Bool) → Place
  -- of U, R and W: what is said beside the right operand
  Rest : (number : ℕ) → Pairing → (left right : Formula) → (positive : Bool) → Place
  -- both operands of an iff, and neither; each or its negation. The number is that of the iff
  Both Neither : (number : ℕ) → (left right : Formula) → (positive : Bool) → Place

abbrev pub Form : Type 0
Form = closure.Form Place

abbrev pub leads_to : Place → Form
leads_to p = And p p

-- ---- occurrences

-- the number of the right operand of the connective or operator at i
abbrev pub right_at : ℕ → Formula → ℕ
right_at left f = left + occurrences f

-- F says f now or F later, and G says f now and G later
abbrev pub form_of_tense : Tense → ℕ → Formula → Bool → Form
form_of_tense tense.Next i f sign = Square (Now (i + 1) f sign)
form_of_tense tense.Finally i f sign = one_of sign (Now (i + 1) f sign) (Later i (Temporal tense.Finally f) sign)
form_of_tense tense.Globally i f sign = all_of sign (Now (i + 1) f sign) (Later i (Temporal tense.Globally f) sign)

-- f U g and f W g say g, or f now and the same later; f R g says g, and f now or the same later
abbrev pub form_of_pairing : Pairing → Bool → (right rest : Place) → Form
form_of_pairing pairing.Until sign right rest = one_of sign right rest
form_of_pairing pairing.Weak sign right rest = one_of sign right rest
form_of_pairing pairing.Release sign right rest = all_of sign right rest

abbrev pub form_of_rest : Pairing → Bool → (left later : Place) → Form
form_of_rest pairing.Until sign left later = all_of sign left later
form_of_rest pairing.Weak sign left later = all_of sign left later
form_of_rest pairing.Release sign left later = one_of sign left later

abbrev pub form_of_formula : ℕ → Formula → Bool → Form
form_of_formula i (Const b) sign = Constant (beq b sign)
form_of_formula i (Prop p) sign = Literal p sign
form_of_formula i (Not f) sign = leads_to (Now (i + 1) f (not sign))
form_of_formula i (Binary op f g) sign =
    let l = i + weight op in
    form_of_connective op sign (Now l f) (Now (right_at l f) g) (Both i f g) (Neither i f g)
form_of_formula i (Temporal t f) sign = form_of_tense t i f sign
form_of_formula i (Paired p f g) sign = form_of_pairing p sign (Now (right_at (i + 1) f) g sign) (Rest i p f g sign)
-- no formula of LTL
form_of_formula i (Quantified q f) sign = Constant false

-- ---- all nodes

abbrev pub form_of : Place → Form
form_of (Root start) = And start Total
form_of Total = And HasEdge LeadsOn
form_of HasEdge = Diamond True
form_of LeadsOn = Square Total
form_of True = Constant true
form_of (Now i f sign) = form_of_formula i f sign
form_of (Later i f sign) = Square (Now i f sign)
form_of (Rest i p f g sign) = form_of_rest p sign (Now (i + 1) f sign) (Later i (Paired p f g) sign)
-- f and g, or f and not g; not f and not g, or not f and g
form_of (Both i f g sign) = And (Now (i + 3) f true) (Now (right_at (i + 3) f) g sign)
form_of (Neither i f g sign) = And (Now (i + 3) f false) (Now (right_at (i + 3) f) g (not sign))

abbrev pub priority_of : Place → ℕ
priority_of (Now i f sign) = if is_eventual f sign then 1 else 2
priority_of p = 2

abbrev pub start_of : Formula → Bool → Place
start_of f negated = Now 0 f (not negated)

abbrev pub forms : closure.Forms Place
forms = record { form_of = form_of; priority_of = priority_of }

-- ---- the graph

abbrev pub IsReached : Place → Place → Type 0
IsReached root = closure.IsReached forms root

abbrev pub IsNumberedBy : Graph → Place → List Place → Type 0
IsNumberedBy g root places = closure.IsNumberedBy forms g root places

abbrev pub IsGraphOf : Graph → Formula → Bool → Type 0
IsGraphOf g f negated = closure.IsGraphFrom forms g (Root (start_of f negated))
