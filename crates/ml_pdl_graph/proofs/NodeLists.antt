-- Where the lists of a formula's graph stand in a graph, the formula stands.
--
--   length-nodes, length-program_nodes, .. == two for each occurrence
--   stands, program_stands                 == the nodes and priorities of a formula, or of a program, say what stands there
use Rattle.std.proofs.Common.{◌≡◌, ℕ, ◌+◌, ◌*◌, List, [], ◌++◌, length, refl, arith}
use Rattle.ml_graph.specs.Graph.{Graph}
use Rattle.ml_text.specs.Operators.{weight}
use Rattle.ml_text.specs.NameLists.{place_of}
use Rattle.ml_text.proofs.NameLists.{place_found}
use Rattle.ml_text.proofs.Names.{AreAmong, among_parts}
use Rattle.ml_pdl.specs.Formula.{Formula, Const, Prop, Not, Binary, Modal, Repeat, Program, Act, Seq, Alt, Star, Test, occurrences, program_occurrences}
use Rattle.ml_pdl.specs.FormulaNames.{names, program_names}
use Rattle.ml_nodes.specs.Nodes.{positive, negative}
use Rattle.ml_pdl_graph.specs.PdlGraph.{diamond, box, own, dual, plain, StandsAt, ProgramStandsAt}
use Rattle.ml_pdl_graph.specs.private.NodeList.{nodes_of, program_nodes, priorities_of, program_priorities}
use Rattle.ml_nodes.proofs.Connectives.{length-operator, length-operator_priorities, length-parts}
use Rattle.ml_nodes.proofs.StandingLists.{Stand, Parts, joined, pair, parts}

mutual
  pub length-nodes : (ps acts : List (List ℕ)) (i : ℕ) (f : Formula) → length (nodes_of ps acts i f) ≡ 2 * occurrences f
  length-nodes ps acts i (Const v) = refl
  length-nodes ps acts i (Prop p) = refl
  length-nodes ps acts i (Not f) = omega (arith, length-nodes ps acts (i + 1) f)
  length-nodes ps acts i (Binary op f h) =
      let l = i + weight op in
      let r = l + occurrences f in
      let operands = length-parts _ _ _ _ (length-nodes ps acts l f) (length-nodes ps acts r h) in
      omega (arith, length-parts _ _ _ _ (length-operator op i l r) operands)
  length-nodes ps acts i (Modal m p f) =
      let l = i + 1 in
      let r = l + program_occurrences p in
      let program = length-program_nodes ps acts l (own m r) (dual m r) p in
      omega (arith, length-parts _ _ _ _ program (length-nodes ps acts r f))
  length-nodes ps acts i (Repeat p) = omega (arith, length-program_nodes ps acts (i + 1) (positive i) (negative i) p)

  pub length-program_nodes : (ps acts : List (List ℕ)) (i d b : ℕ) (p : Program)
      → length (program_nodes ps acts i d b p) ≡ 2 * program_occurrences p
  length-program_nodes ps acts i d b (Act a) = refl
  length-program_nodes ps acts i d b (Seq p q) =
      let l = i + 1 in
      let r = l + program_occurrences p in
      let first = length-program_nodes ps acts l (diamond r) (box r) p in
      omega (arith, length-parts _ _ _ _ first (length-program_nodes ps acts r d b q))
  length-program_nodes ps acts i d b (Alt p q) =
      let l = i + 1 in
      let r = l + program_occurrences p in
      let first = length-program_nodes ps acts l d b p in
      omega (arith, length-parts _ _ _ _ first (length-program_nodes ps acts r d b q))
  length-program_nodes ps acts i d b (Star p) = omega (arith, length-program_nodes ps acts (i + 1) (diamond i) (box i) p)
  length-program_nodes ps acts i d b (Test f) = omega (arith, length-nodes ps acts (i + 1) f)

mutual
  pub length-priorities : (f : Formula) → length (priorities_of f) ≡ 2 * occurrences f
  length-priorities (Const b) = refl
  length-priorities (Prop p) = refl
  length-priorities (Not f) = omega (arith, length-priorities f)
  length-priorities (Binary op f h) =
      let operands = length-parts _ _ _ _ (length-priorities f) (length-priorities h) in
      omega (arith, length-parts _ _ _ _ (length-operator_priorities op plain) operands)
  length-priorities (Modal m p f) =
      omega (arith, length-parts _ _ _ _ (length-program_priorities p) (length-priorities f))
  length-priorities (Repeat p) = omega (arith, length-program_priorities p)

  pub length-program_priorities : (p : Program) → length (program_priorities p) ≡ 2 * program_occurrences p
  length-program_priorities (Act a) = refl
  length-program_priorities (Seq p q) =
      omega (arith, length-parts _ _ _ _ (length-program_priorities p) (length-program_priorities q))
  length-program_priorities (Alt p q) =
      omega (arith, length-parts _ _ _ _ (length-program_priorities p) (length-program_priorities q))
  length-program_priorities (Star p) = omega (arith, length-program_priorities p)
  length-program_priorities (Test f) = omega (arith, length-priorities f)

-- the two operands of a connective
operands : (g : Graph) (l r : ℕ) (f h : Formula)
    → Stand g l (nodes_of g.props g.actions l f ++ nodes_of g.props g.actions r h) (priorities_of f ++ priorities_of h)
    → r ≡ l + occurrences f
    → Parts g l r (nodes_of g.props g.actions l f) (nodes_of g.props g.actions r h) (priorities_of f) (priorities_of h)
operands g l r f h s is =
    parts g l r (occurrences f) (nodes_of g.props g.actions l f) (nodes_of g.props g.actions r h) (priorities_of f)
    (priorities_of h) s (length-nodes g.props g.actions l f) (length-priorities f) is

-- a program and the formula behind it
modal_parts : (g : Graph) (l r d b : ℕ) (p : Program) (f : Formula)
    → Stand g l (program_nodes g.props g.actions l d b p ++ nodes_of g.props g.actions r f) (program_priorities p ++ priorities_of f)
    → r ≡ l + program_occurrences p
    → Parts g l r (program_nodes g.props g.actions l d b p) (nodes_of g.props g.actions r f) (program_priorities p) (priorities_of f)
modal_parts g l r d b p f s is =
    parts g l r (program_occurrences p) (program_nodes g.props g.actions l d b p) (nodes_of g.props g.actions r f)
    (program_priorities p) (priorities_of f) s (length-program_nodes g.props g.actions l d b p) (length-program_priorities p) is

-- two programs
program_parts : (g : Graph) (l r d b e c : ℕ) (p q : Program)
    → Stand g l (program_nodes g.props g.actions l d b p ++ program_nodes g.props g.actions r e c q)
    (program_priorities p ++ program_priorities q)
    → r ≡ l + program_occurrences p
    → Parts g l r (program_nodes g.props g.actions l d b p) (program_nodes g.props g.actions r e c q)
    (program_priorities p) (program_priorities q)
program_parts g l r d b e c p q s is =
    parts g l r (program_occurrences p) (program_nodes g.props g.actions l d b p) (program_nodes g.props g.actions r e c q)
    (program_priorities p) (program_priorities q) s (length-program_nodes g.props g.actions l d b p)
    (length-program_priorities p) is

mutual
  pub stands : (g : Graph) (i : ℕ) (f : Formula)
      → AreAmong g.props g.actions (names f)
      → Stand g i (nodes_of g.props g.actions i f) (priorities_of f)
      → StandsAt g i f
  stands g i (Const b) among s = let p = pair g i _ _ plain plain [] [] s in (p.first, p.second)
  stands g i (Prop p) among s =
      let q = pair g i _ _ plain plain [] [] s in
      let named = (place_found g.props p among.0.0).named in
      ((place_of g.props p, q.first, named), (place_of g.props p, q.second, named))
  stands g i (Not f) among s =
      let p = pair g i _ _ plain plain _ _ s in (p.first, p.second, stands g (i + 1) f among p.behind)
  stands g i (Binary op f h) among s =
      let parts = among_parts g.props g.actions (names f) (names h) among in
      let l = i + weight op in
      let r = l + occurrences f in
      let here = joined g plain op i l r _ _ s in
      let o = operands g l r f h here.behind refl in
      (here.joins, stands g l f parts.0 o.left, stands g r h parts.1 o.right)
  stands g i (Modal m p f) among s =
      let parts = among_parts g.props g.actions (program_names p) (names f) among in
      let l = i + 1 in
      let r = l + program_occurrences p in
      let here = pair g i _ _ plain plain _ _ s in
      let o = modal_parts g l r (own m r) (dual m r) p f here.behind refl in
      (here.first, here.second, program_stands g l (own m r) (dual m r) p parts.0 o.left, stands g r f parts.1 o.right)
  stands g i (Repeat p) among s =
      let here = pair g i _ _ 0 1 _ _ s in
      (here.first, here.second, program_stands g (i + 1) (positive i) (negative i) p among here.behind)

  pub program_stands : (g : Graph) (i d b : ℕ) (p : Program)
      → AreAmong g.props g.actions (program_names p)
      → Stand g i (program_nodes g.props g.actions i d b p) (program_priorities p)
      → ProgramStandsAt g i d b p
  program_stands g i d b (Act a) among s =
      let q = pair g i _ _ plain plain [] [] s in (place_of g.actions a, q.first, q.second, (place_found g.actions a among.1.0).named)
  program_stands g i d b (Seq p q) among s =
      let parts = among_parts g.props g.actions (program_names p) (program_names q) among in
      let l = i + 1 in
      let r = l + program_occurrences p in
      let here = pair g i _ _ plain plain _ _ s in
      let o = program_parts g l r (diamond r) (box r) d b p q here.behind refl in
      (here.first, here.second, program_stands g l (diamond r) (box r) p parts.0 o.left, program_stands g r d b q parts.1 o.right)
  program_stands g i d b (Alt p q) among s =
      let parts = among_parts g.props g.actions (program_names p) (program_names q) among in
      let l = i + 1 in
      let r = l + program_occurrences p in
      let here = pair g i _ _ plain plain _ _ s in
      let o = program_parts g l r d b d b p q here.behind refl in
      (here.first, here.second, program_stands g l d b p parts.0 o.left, program_stands g r d b q parts.1 o.right)
  program_stands g i d b (Star p) among s =
      let here = pair g i _ _ 3 2 _ _ s in
      (here.first, here.second, program_stands g (i + 1) (diamond i) (box i) p among here.behind)
  program_stands g i d b (Test f) among s =
      let here = pair g i _ _ plain plain _ _ s in
      (here.first, here.second, stands g (i + 1) f among here.behind)

-- ---- each has an occurrence
