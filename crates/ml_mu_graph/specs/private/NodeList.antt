-- The lists of a formula's graph: names, nodes and priorities, in the order in which a program makes them.
--
--   props_onto f ps             == the names ps, and behind them the propositions of f
--   actions_onto f as           == these, and behind them the actions of f
--   bound x i b                 == the binders b, and inside them one of x as the occurrence i
--   nodes_of ps acts b i f      == the nodes of f as the occurrence i, with these names and the binders b around
--   priorities_of k d f         == their priorities, with d binders around
--
-- Binders around are a function here, from a variable to the occurrence of its innermost one.
use Rattle.std.specs.Prelude.{ℕ, ◌+◌, true, false, not, if◌then◌else◌, List, [], ◌∷◌, ◌++◌}
use Rattle.std.specs.Str.{bytes_eq}
use Rattle.ml_graph.specs.declared.node.Node.{Node}
use Rattle.ml_graph.specs.declared.node.Node.TheVariants as node
use Rattle.ml_text.specs.NameLists.{with_names, place_of}
use Rattle.ml_text.specs.Names.{Proposition, Action, of_kind}
use Rattle.ml_text.specs.declared.token.Operator.{Operator}
use Rattle.ml_text.specs.declared.token.Operator.TheVariants as operator
use Rattle.ml_text.specs.Operators.{weight}
use Rattle.ml_mu.specs.Formula.{Formula, Const, Prop, Var, Not, Binary, Modal, Binder, occurrences}
use Rattle.ml_mu.specs.FormulaNames.{names}
use Rattle.ml_nodes.specs.Nodes.{positive, negative, lead_to, constant}
use Rattle.ml_nodes.specs.private.Connectives.{operator_nodes, operator_priorities}
use Rattle.ml_mu_graph.specs.MuGraph.{modality, dual, binder_priority, opposite}

abbrev pub props_onto : Formula → List (List ℕ) → List (List ℕ)
props_onto f ps = with_names ps (of_kind Proposition (names f))

abbrev pub actions_onto : Formula → List (List ℕ) → List (List ℕ)
actions_onto f acts = with_names acts (of_kind Action (names f))

-- as many nodes that say nothing yet as a connective has
abbrev pub operator_holes : Operator → List Node
operator_holes operator.And = node.True ∷ node.True ∷ []
operator_holes operator.Or = node.True ∷ node.True ∷ []
operator_holes operator.Implies = node.True ∷ node.True ∷ []
operator_holes operator.Iff = node.True ∷ node.True ∷ node.True ∷ node.True ∷ node.True ∷ node.True ∷ []

abbrev pub bound : List ℕ → ℕ → (List ℕ → ℕ) → List ℕ → ℕ
bound x i b y = if bytes_eq x y then i else b y

abbrev pub nodes_of : List (List ℕ) → List (List ℕ) → (List ℕ → ℕ) → ℕ → Formula → List Node
nodes_of ps acts b i (Const v) = constant v ∷ constant (not v) ∷ []
nodes_of ps acts b i (Prop p) = node.Lit (place_of ps p) true ∷ node.Lit (place_of ps p) false ∷ []
nodes_of ps acts b i (Var x) = lead_to (positive (b x)) ∷ lead_to (negative (b x)) ∷ []
nodes_of ps acts b i (Not f) =
    lead_to (negative (i + 1)) ∷ lead_to (positive (i + 1)) ∷ nodes_of ps acts b (i + 1) f
nodes_of ps acts b i (Binary op f h) =
    let l = i + weight op in let r = l + occurrences f in
    operator_nodes op i l r ++ (nodes_of ps acts b l f ++ nodes_of ps acts b r h)
nodes_of ps acts b i (Modal m a f) =
    modality m (place_of acts a) (positive (i + 1))
    ∷ modality (dual m) (place_of acts a) (negative (i + 1))
    ∷ nodes_of ps acts b (i + 1) f
nodes_of ps acts b i (Binder q x f) =
    lead_to (positive (i + 1)) ∷ lead_to (negative (i + 1)) ∷ nodes_of ps acts (bound x i b) (i + 1) f

abbrev pub priorities_of : ℕ → ℕ → Formula → List ℕ
priorities_of k d (Const b) = k ∷ k ∷ []
priorities_of k d (Prop p) = k ∷ k ∷ []
priorities_of k d (Var x) = k ∷ k ∷ []
priorities_of k d (Not f) = k ∷ k ∷ priorities_of k d f
priorities_of k d (Binary op f h) =
    operator_priorities op k ++ (priorities_of k d f ++ priorities_of k d h)
priorities_of k d (Modal m a f) = k ∷ k ∷ priorities_of k d f
priorities_of k d (Binder q x f) =
    binder_priority q d ∷ binder_priority (opposite q) d ∷ priorities_of k (d + 1) f
