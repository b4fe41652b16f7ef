-- The lists of a formula's graph: names, nodes and priorities, in the order in which a program makes them.
--
--   props_onto f ps, program_props_onto p ps         == the names ps, and behind them the propositions of f, or of p
--   actions_onto f acts, program_actions_onto p acts == these, and behind them the actions
--   nodes_of ps acts i f          == the nodes of f as the occurrence i, with these names
--   program_nodes ps acts i d b p == those of the program p, whose diamond goes on at the node d and whose box at b
--   priorities_of f, program_priorities p == their priorities
use Rattle.std.specs.Prelude.{ℕ, ◌+◌, true, false, not, List, [], ◌∷◌, ◌++◌}
use Rattle.ml_graph.specs.declared.node.Node.{Node}
use Rattle.ml_graph.specs.declared.node.Node.TheVariants as node
use Rattle.ml_text.specs.NameLists.{with_names, place_of}
use Rattle.ml_text.specs.Names.{Proposition, Action, of_kind}
use Rattle.ml_text.specs.Operators.{weight}
use Rattle.ml_pdl.specs.Formula.{Formula, Const, Prop, Not, Binary, Modal, Repeat, Program, Act, Seq, Alt, Star, Test, occurrences, program_occurrences}
use Rattle.ml_pdl.specs.FormulaNames.{names, program_names}
use Rattle.ml_nodes.specs.Nodes.{positive, negative, lead_to, constant}
use Rattle.ml_nodes.specs.private.Connectives.{operator_nodes, operator_priorities}
use Rattle.ml_pdl_graph.specs.PdlGraph.{diamond, box, own, dual, plain}

abbrev pub props_onto : Formula → List (List ℕ) → List (List ℕ)
props_onto f ps = with_names ps (of_kind Proposition (names f))

abbrev pub program_props_onto : Program → List (List ℕ) → List (List ℕ)
program_props_onto p ps = with_names ps (of_kind Proposition (program_names p))

abbrev pub actions_onto : Formula → List (List ℕ) → List (List ℕ)
actions_onto f acts = with_names acts (of_kind Action (names f))

abbrev pub program_actions_onto : Program → List (List ℕ) → List (List ℕ)
program_actions_onto p acts = with_names acts (of_kind Action (program_names p))

abbrev mutual
  pub nodes_of : List (List ℕ) → List (List ℕ) → ℕ → Formula → List Node
  nodes_of ps acts i (Const v) = constant v ∷ constant (not v) ∷ []
  nodes_of ps acts i (Prop p) = node.Lit (place_of ps p) true ∷ node.Lit (place_of ps p) false ∷ []
  nodes_of ps acts i (Not f) =
      lead_to (negative (i + 1)) ∷ lead_to (positive (i + 1)) ∷ nodes_of ps acts (i + 1) f
  nodes_of ps acts i (Binary op f h) =
      let l = i + weight op in let r = l + occurrences f in
      operator_nodes op i l r ++ (nodes_of ps acts l f ++ nodes_of ps acts r h)
  nodes_of ps acts i (Modal m p f) =
      let l = i + 1 in let r = l + program_occurrences p in
      lead_to (own m l) ∷ lead_to (dual m l)
      ∷ (program_nodes ps acts l (own m r) (dual m r) p ++ nodes_of ps acts r f)
  nodes_of ps acts i (Repeat p) =
      lead_to (diamond (i + 1)) ∷ lead_to (box (i + 1)) ∷ program_nodes ps acts (i + 1) (positive i) (negative i) p

  pub program_nodes : List (List ℕ) → List (List ℕ) → ℕ → ℕ → ℕ → Program → List Node
  program_nodes ps acts i d b (Act a) =
      node.Diamond (place_of acts a) d ∷ node.Square (place_of acts a) b ∷ []
  program_nodes ps acts i d b (Seq p q) =
      let l = i + 1 in let r = l + program_occurrences p in
      lead_to (diamond l) ∷ lead_to (box l)
      ∷ (program_nodes ps acts l (diamond r) (box r) p ++ program_nodes ps acts r d b q)
  program_nodes ps acts i d b (Alt p q) =
      let l = i + 1 in let r = l + program_occurrences p in
      node.Or (diamond l) (diamond r) ∷ node.And (box l) (box r)
      ∷ (program_nodes ps acts l d b p ++ program_nodes ps acts r d b q)
  program_nodes ps acts i d b (Star p) =
      node.Or d (diamond (i + 1)) ∷ node.And b (box (i + 1)) ∷ program_nodes ps acts (i + 1) (diamond i) (box i) p
  program_nodes ps acts i d b (Test f) =
      node.And (positive (i + 1)) d ∷ node.Or (negative (i + 1)) b ∷ nodes_of ps acts (i + 1) f

abbrev mutual
  pub priorities_of : Formula → List ℕ
  priorities_of (Const b) = plain ∷ plain ∷ []
  priorities_of (Prop p) = plain ∷ plain ∷ []
  priorities_of (Not f) = plain ∷ plain ∷ priorities_of f
  priorities_of (Binary op f h) = operator_priorities op plain ++ (priorities_of f ++ priorities_of h)
  priorities_of (Modal m p f) = plain ∷ plain ∷ (program_priorities p ++ priorities_of f)
  priorities_of (Repeat p) = 0 ∷ 1 ∷ program_priorities p

  pub program_priorities : Program → List ℕ
  program_priorities (Act a) = plain ∷ plain ∷ []
  program_priorities (Seq p q) = plain ∷ plain ∷ (program_priorities p ++ program_priorities q)
  program_priorities (Alt p q) = plain ∷ plain ∷ (program_priorities p ++ program_priorities q)
  program_priorities (Star p) = 3 ∷ 2 ∷ program_priorities p
  program_priorities (Test f) = plain ∷ plain ∷ priorities_of f
