-- Where the lists of a formula's graph stand in a graph, the formula stands.
--
--   length-nodes, length-priorities == two for each occurrence
--   stands            == the nodes and priorities of a formula say what stands there
use Rattle.std.proofs.Common.{◌≡◌, ℕ, ◌+◌, ◌*◌, ◌/◌, List, [], ◌∷◌, ◌++◌, length, refl, sym, ◌∙◌, ap, subst, arith, length-append, append_assoc, take, drop}
use Rattle.std.proofs.Math.Seq.{take-append_seam, drop-append_seam}
use Rattle.ml_graph.specs.Graph.{Graph}
use Rattle.ml_graph.specs.declared.node.Node.{Node}
use Rattle.ml_text.specs.declared.token.Operator.{Operator}
use Rattle.ml_text.specs.declared.token.Operator.TheVariants as operator
use Rattle.ml_text.specs.Operators.{weight}
use Rattle.ml_text.specs.NameLists.{place_of}
use Rattle.ml_text.proofs.NameLists.{place_found}
use Rattle.ml_text.proofs.Names.{AreAmong, among_parts}
use Rattle.ml_mu.specs.Formula.{Formula, Const, Prop, Var, Not, Binary, Modal, Binder, occurrences}
use Rattle.ml_mu.specs.FormulaNames.{names}
use Rattle.ml_mu_graph.specs.MuGraph.{Around, binder_of, binder_priority, opposite, StandsAt}
use Rattle.ml_nodes.specs.private.Connectives.{operator_nodes}
use Rattle.ml_mu_graph.specs.private.NodeList.{operator_holes, bound, nodes_of, priorities_of}
use Rattle.ml_nodes.proofs.Connectives.{length-operator, length-operator_priorities, length-parts}
use Rattle.ml_nodes.proofs.StandingLists.{Stand, Parts, joined, pair, parts}

pub length-nodes : (ps acts : List (List ℕ)) (b : List ℕ → ℕ) (i : ℕ) (f : Formula)
    → length (nodes_of ps acts b i f) ≡ 2 * occurrences f
length-nodes ps acts b i (Const v) = refl
length-nodes ps acts b i (Prop p) = refl
length-nodes ps acts b i (Var x) = refl
length-nodes ps acts b i (Not f) = omega (arith, length-nodes ps acts b (i + 1) f)
length-nodes ps acts b i (Binary op f h) =
    let l = i + weight op in
    let r = l + occurrences f in
    let operands = length-parts _ _ _ _ (length-nodes ps acts b l f) (length-nodes ps acts b r h) in
    omega (arith, length-parts _ _ _ _ (length-operator op i l r) operands)
length-nodes ps acts b i (Modal m a f) = omega (arith, length-nodes ps acts b (i + 1) f)
length-nodes ps acts b i (Binder q x f) = omega (arith, length-nodes ps acts (bound x i b) (i + 1) f)

pub length-priorities : (k d : ℕ) (f : Formula) → length (priorities_of k d f) ≡ 2 * occurrences f
length-priorities k d (Const b) = refl
length-priorities k d (Prop p) = refl
length-priorities k d (Var x) = refl
length-priorities k d (Not f) = omega (arith, length-priorities k d f)
length-priorities k d (Binary op f h) =
    let operands = length-parts _ _ _ _ (length-priorities k d f) (length-priorities k d h) in
    omega (arith, length-parts _ _ _ _ (length-operator_priorities op k) operands)
length-priorities k d (Modal m a f) = omega (arith, length-priorities k d f)
length-priorities k d (Binder q x f) = omega (arith, length-priorities k (d + 1) f)

-- the operands of a connective
operands : (g : Graph) (k d : ℕ) (bs : Around) (l r : ℕ) (f h : Formula)
    → Stand g l (nodes_of g.props g.actions (binder_of bs) l f ++ nodes_of g.props g.actions (binder_of bs) r h)
    (priorities_of k d f ++ priorities_of k d h)
    → r ≡ l + occurrences f
    → Parts g l r (nodes_of g.props g.actions (binder_of bs) l f) (nodes_of g.props g.actions (binder_of bs) r h)
    (priorities_of k d f) (priorities_of k d h)
operands g k d bs l r f h s is =
    parts g l r (occurrences f) (nodes_of g.props g.actions (binder_of bs) l f)
    (nodes_of g.props g.actions (binder_of bs) r h) (priorities_of k d f) (priorities_of k d h) s
    (length-nodes g.props g.actions (binder_of bs) l f) (length-priorities k d f) is

pub stands : (g : Graph) (k : ℕ) (bs : Around) (i : ℕ) (f : Formula)
    → AreAmong g.props g.actions (names f)
    → Stand g i (nodes_of g.props g.actions (binder_of bs) i f) (priorities_of k (length bs) f)
    → StandsAt g k bs i f
stands g k bs i (Const b) among s = let p = pair g i _ _ k k [] [] s in (p.first, p.second)
stands g k bs i (Prop p) among s =
    let q = pair g i _ _ k k [] [] s in
    let named = (place_found g.props p among.0.0).named in
    ((place_of g.props p, q.first, named), (place_of g.props p, q.second, named))
stands g k bs i (Var x) among s = let p = pair g i _ _ k k [] [] s in (p.first, p.second)
stands g k bs i (Not f) among s =
    let p = pair g i _ _ k k _ _ s in (p.first, p.second, stands g k bs (i + 1) f among p.behind)
stands g k bs i (Binary op f h) among s =
    let parts = among_parts g.props g.actions (names f) (names h) among in
    let l = i + weight op in
    let r = l + occurrences f in
    let here = joined g k op i l r _ _ s in
    let o = operands g k (length bs) bs l r f h here.behind refl in
    (here.joins, stands g k bs l f parts.0 o.left, stands g k bs r h parts.1 o.right)
stands g k bs i (Modal m a f) among s =
    let p = pair g i _ _ k k _ _ s in
    let named = (place_found g.actions a among.1.0).named in (
      (place_of g.actions a, p.first, named),
      (place_of g.actions a, p.second, named),
      stands g k bs (i + 1) f (among.0, among.1.1) p.behind,
    )
stands g k bs i (Binder q x f) among s =
    let inside = nodes_of g.props g.actions (binder_of ((x, i) ∷ bs)) (i + 1) f in
    let d = length bs in
    let p = pair g i _ _ (binder_priority q d) (binder_priority (opposite q) d) inside (priorities_of k (d + 1) f) s in
    let deeper : length bs + 1 ≡ length ((x, i) ∷ bs) = omega arith in (
      p.first,
      p.second,
      stands g k ((x, i) ∷ bs) (i + 1) f among
          (subst (λ d. Stand g (i + 1) inside (priorities_of k d f)) deeper p.behind),
    )

-- ---- the nodes of a connective, written over the places that were kept for them

length-holes : (op : Operator) → length (operator_holes op) ≡ 2 * weight op
length-holes operator.And = refl
length-holes operator.Or = refl
length-holes operator.Implies = refl
length-holes operator.Iff = refl

-- a connective at the occurrence `at`, once its left operand f is placed behind its holes
pub record LeftPlaced (old after : List Node) (op : Operator) (at : ℕ) (ps acts : List (List ℕ)) (b : List ℕ → ℕ)
    (f : Formula) : Type 0 where
  pub nodes : after ≡ (old ++ operator_holes op) ++ nodes_of ps acts b (at + weight op) f
  pub size : length after ≡ 2 * (at + weight op + occurrences f)

pub left_placed : (old opened after : List Node) (op : Operator) (at w : ℕ) (ps acts : List (List ℕ))
    (b : List ℕ → ℕ) (f : Formula)
    → length old ≡ 2 * at
    → opened ≡ old ++ operator_holes op
    → w ≡ weight op
    → after ≡ opened ++ nodes_of ps acts b (at + w) f
    → LeftPlaced old after op at ps acts b f
left_placed old opened after op at w ps acts b f start holes is_weight is =
    let left = nodes_of ps acts b (at + weight op) f in
    let nodes : after ≡ (old ++ operator_holes op) ++ left =
    is ∙ ap (λ xs. xs ++ nodes_of ps acts b (at + w) f) holes
    ∙ ap (λ v. (old ++ operator_holes op) ++ nodes_of ps acts b (at + v) f) is_weight in
    record {
      nodes = nodes;
      size =
          ap length nodes
          ∙ length-parts _ _ _ _ (length-parts _ _ _ _ start (length-holes op)) (length-nodes ps acts b (at + weight op) f);
    }

-- the connective's own nodes are written over its holes, once the right operand h is placed too
pub closed : (old after both new : List Node) (op : Operator) (at w second : ℕ) (ps acts : List (List ℕ))
    (b c : List ℕ → ℕ) (f h : Formula)
    → length old ≡ 2 * at
    → LeftPlaced old after op at ps acts b f
    → second ≡ at + weight op + occurrences f
    → c ≡ b
    → both ≡ after ++ nodes_of ps acts c second h
    → w ≡ weight op
    → (let block = operator_nodes op at (at + w) second in
    new ≡ take (2 * at) both ++ (block ++ drop (2 * at + length block) both))
    → new ≡ old ++ nodes_of ps acts b at (Binary op f h)
closed old after both new op at w second ps acts b c f h start placed number same is is_weight over =
    let l = nodes_of ps acts b (at + weight op) f in
    let r = nodes_of ps acts b second h in
    let block = operator_nodes op at (at + weight op) second in
    let holes = operator_holes op in
    let joint : both ≡ (old ++ holes) ++ (l ++ r) =
    is ∙ ap (λ d. after ++ nodes_of ps acts d second h) same ∙ ap (λ xs. xs ++ r) placed.nodes
    ∙ append_assoc (old ++ holes) l r in
    let apart : both ≡ old ++ (holes ++ (l ++ r)) = joint ∙ append_assoc old holes (l ++ r) in
    let front : take (2 * at) both ≡ old =
    ap (λ n. take n both) (sym start) ∙ ap (take (length old)) apart ∙ take-append_seam old (holes ++ (l ++ r)) in
    let size : 2 * at + length block ≡ length (old ++ holes) =
    omega (arith, length-append old holes, length-holes op, length-operator op at (at + weight op) second, start) in
    let back : drop (2 * at + length block) both ≡ l ++ r =
    ap (λ n. drop n both) size ∙ ap (drop (length (old ++ holes))) joint ∙ drop-append_seam (old ++ holes) (l ++ r) in
    over
    ∙ ap (λ v. let block = operator_nodes op at (at + v) second in
    take (2 * at) both ++ (block ++ drop (2 * at + length block) both)) is_weight
    ∙ ap (λ xs. xs ++ (block ++ drop (2 * at + length block) both)) front
    ∙ ap (λ xs. old ++ (block ++ xs)) back
    ∙ ap (λ n. old ++ (operator_nodes op at (at + weight op) n ++ (l ++ nodes_of ps acts b n h))) number

-- half of the nodes so far is the number of the right operand
pub second_number : (op : Operator) (at : ℕ) (f : Formula) (after slice : List Node) (second : ℕ)
    → length after ≡ 2 * (at + weight op + occurrences f)
    → slice ≡ after
    → second ≡ length slice / 2
    → second ≡ at + weight op + occurrences f
second_number op at f after slice second size is half = omega (arith, size, ap length is, half)
