-- The nodes of all occurrences, whether they are reached or not, in the order in which a program makes them.
--
-- First come the root and its part on edges, and then six nodes for each occurrence: `Now`, `Later` and `Rest` of both signs,
-- or True where an occurrence has no such node. The two cases of an iff stand as `Now` of the two numbers behind its own.
--
--   slot i k sign        == where the node of that kind of the occurrence i stands
--   key p                == where the node p stands
--   node_of ps f         == a node of the form f, with these names of propositions
--   occurrence_nodes     == the six nodes of an occurrence
--   nodes_of ps i f      == the nodes of f as the occurrence i, and of its operands
--   priorities_of f      == their priorities
--   all_nodes, all_priorities == those of a problem
use Rattle.std.specs.Prelude.{ℕ, ◌+◌, ◌*◌, Bool, true, false, if◌then◌else◌, List, [], ◌∷◌, ◌++◌}
use Rattle.ml_graph.specs.declared.node.Node.{Node}
use Rattle.ml_graph.specs.declared.node.Node.TheVariants as node
use Rattle.ml_text.specs.NameLists.{place_of}
use Rattle.ml_text.specs.declared.token.Operator.{Operator}
use Rattle.ml_text.specs.declared.token.Operator.TheVariants as operator
use Rattle.ml_text.specs.Operators.{weight}
use Rattle.ml_ctl.specs.Formula.{Formula, Const, Prop, Not, Binary, Temporal, Paired, Quantified}
use Rattle.ml_nodes.specs.Nodes.{constant}
use Rattle.ml_word_graph.specs.declared.layout.Kind.{Kind}
use Rattle.ml_word_graph.specs.declared.layout.Kind.TheVariants as kind
use Rattle.ml_word_graph.specs.WordGraph.{Place, Form, Root, Total, HasEdge, LeadsOn, True, Now, Later, Rest, Both, Neither}
use Rattle.ml_word_graph.specs.WordGraph.{Constant, Literal, And, Or, Diamond, Square, form_of, priority_of, right_at, start_of}

abbrev pub offset : Kind → ℕ
offset kind.Now = 0
offset kind.Later = 2
offset kind.Rest = 4

abbrev pub slot : ℕ → Kind → Bool → ℕ
slot i k sign = 5 + 6 * i + offset k + (if sign then 0 else 1)

abbrev pub key : Place → ℕ
key (Root start) = 0
key Total = 1
key HasEdge = 2
key LeadsOn = 3
key True = 4
key (Now i f sign) = slot i kind.Now sign
key (Later i f sign) = slot i kind.Later sign
key (Rest i p f g sign) = slot i kind.Rest sign
key (Both i f g sign) = slot (i + 1) kind.Now sign
key (Neither i f g sign) = slot (i + 2) kind.Now sign

abbrev pub node_of : List (List ℕ) → Form → Node
node_of ps (Constant b) = constant b
node_of ps (Literal p sign) = node.Lit (place_of ps p) sign
node_of ps (And l r) = node.And (key l) (key r)
node_of ps (Or l r) = node.Or (key l) (key r)
node_of ps (Diamond p) = node.Diamond 0 (key p)
node_of ps (Square p) = node.Square 0 (key p)

-- the node of a place
abbrev pub made : List (List ℕ) → Place → Node
made ps p = node_of ps (form_of p)

-- ---- occurrences

abbrev pub rest_nodes : List (List ℕ) → ℕ → Formula → List Node
rest_nodes ps i (Paired p f g) = made ps (Rest i p f g true) ∷ made ps (Rest i p f g false) ∷ []
rest_nodes ps i f = node.True ∷ node.True ∷ []

abbrev pub own_nodes : List (List ℕ) → ℕ → Formula → List Node
own_nodes ps i f =
    made ps (Now i f true) ∷ made ps (Now i f false) ∷ made ps (Later i f true) ∷ made ps (Later i f false) ∷ rest_nodes ps i f

-- a case of an iff
abbrev pub case_nodes : List (List ℕ) → (one other : Place) → List Node
case_nodes ps one other = made ps one ∷ made ps other ∷ node.True ∷ node.True ∷ node.True ∷ node.True ∷ []

abbrev pub iff_nodes : List (List ℕ) → Operator → ℕ → (f g : Formula) → List Node
iff_nodes ps operator.Iff i f g =
    case_nodes ps (Both i f g true) (Both i f g false) ++ case_nodes ps (Neither i f g true) (Neither i f g false)
iff_nodes ps op i f g = []

abbrev pub nodes_of : List (List ℕ) → ℕ → Formula → List Node
nodes_of ps i (Const b) = own_nodes ps i (Const b)
nodes_of ps i (Prop p) = own_nodes ps i (Prop p)
nodes_of ps i (Not f) = own_nodes ps i (Not f) ++ nodes_of ps (i + 1) f
nodes_of ps i (Binary op f g) =
    let l = i + weight op in
    own_nodes ps i (Binary op f g) ++ (iff_nodes ps op i f g ++ (nodes_of ps l f ++ nodes_of ps (right_at l f) g))
nodes_of ps i (Temporal t f) = own_nodes ps i (Temporal t f) ++ nodes_of ps (i + 1) f
nodes_of ps i (Paired p f g) =
    own_nodes ps i (Paired p f g) ++ (nodes_of ps (i + 1) f ++ nodes_of ps (right_at (i + 1) f) g)
nodes_of ps i (Quantified q f) = own_nodes ps i (Quantified q f) ++ nodes_of ps (i + 1) f

-- ---- priorities

abbrev pub own_priorities : Formula → List ℕ
own_priorities f = priority_of (Now 0 f true) ∷ priority_of (Now 0 f false) ∷ 2 ∷ 2 ∷ 2 ∷ 2 ∷ []

abbrev pub iff_priorities : Operator → List ℕ
iff_priorities operator.Iff = 2 ∷ 2 ∷ 2 ∷ 2 ∷ 2 ∷ 2 ∷ 2 ∷ 2 ∷ 2 ∷ 2 ∷ 2 ∷ 2 ∷ []
iff_priorities op = []

abbrev pub priorities_of : Formula → List ℕ
priorities_of (Const b) = own_priorities (Const b)
priorities_of (Prop p) = own_priorities (Prop p)
priorities_of (Not f) = own_priorities (Not f) ++ priorities_of f
priorities_of (Binary op f g) = own_priorities (Binary op f g) ++ (iff_priorities op ++ (priorities_of f ++ priorities_of g))
priorities_of (Temporal t f) = own_priorities (Temporal t f) ++ priorities_of f
priorities_of (Paired p f g) = own_priorities (Paired p f g) ++ (priorities_of f ++ priorities_of g)
priorities_of (Quantified q f) = own_priorities (Quantified q f) ++ priorities_of f

-- ---- a problem

abbrev pub all_nodes : List (List ℕ) → Formula → Bool → List Node
all_nodes ps f negated =
    made ps (Root (start_of f negated)) ∷ made ps Total ∷ made ps HasEdge ∷ made ps LeadsOn ∷ made ps True ∷ nodes_of ps 0 f

abbrev pub all_priorities : Formula → List ℕ
all_priorities f = 2 ∷ 2 ∷ 2 ∷ 2 ∷ 2 ∷ priorities_of f
