-- The body of a binder, in the graph in which the binder is cut open.
--
--   stands_kept     == a formula stands in a graph that has the same nodes from its occurrence on
--   told_kept       == binders that were told their sets still are
--   props_kept      == and the propositions of a formula are true where they were
--   fresh           == a name that is longer than all that occur
--   inner           == so the body's situation is one, with the set that the binder is told
use Rattle.std.proofs.Common.{◌≡◌, ℕ, zero, suc, ◌+◌, ◌*◌, ◌<◌, ◌≤◌, Bool, true, false, List, [], ◌∷◌, length, replicate, slice_index_or, refl, ap, ◌∙◌, arith}
use Rattle.std.proofs.lemmas.Bool.{and_parts}
use Rattle.std.proofs.lemmas.List.{length-replicate}
use Rattle.ml_base.specs.Structure.{Structure, IsStructure, StateSet, lists, is_member}
use Rattle.ml_graph.specs.Graph.{Graph, IsGraph, size, node_at, priority_at, prop_at, action_at}
use Rattle.ml_graph.proofs.References.{prop_in_range}
use Rattle.ml_lists.proofs.Member.{place-member}
use Rattle.ml_text.specs.declared.token.Operator.{Operator}
use Rattle.ml_text.specs.declared.token.Operator.TheVariants as operator
use Rattle.ml_text.specs.Operators.{weight}
use Rattle.ml_mu.specs.Formula.{Formula, Const, Prop, Var, Not, Binary, Modal, Binder, occurrences}
use Rattle.ml_mu.specs.declared.term.Fixpoint.{Fixpoint}
use Rattle.ml_mu.specs.Meaning.{Given}
use Rattle.ml_mu.specs.Variables.{is_positive, occurs_only}
use Rattle.ml_nodes.specs.Nodes.{positive, negative, IsNode, Joins}
use Rattle.ml_mu_graph.specs.MuGraph.{Around, StandsAt, IsLiteral}
use Rattle.ml_mu_graph.proofs.Told.{IsTold, AreTold, AreOutside}
use Rattle.ml_mu_graph.proofs.CutOpen.{cut, marked, IsLonger, longer_differs, cut_size, cut_positive, cut_negative, cut_others}
use Rattle.ml_mu_graph.proofs.CutOpen.{cut_prop, cut_name, cut_graph, marked_structure, marked_others, marked_name}
use Rattle.ml_mu_graph.proofs.Situations.{PropsAgree, Situation, outside_more}

-- the graph h has the nodes of g from n on, and names propositions and actions as g does
pub record Keeps (g h : Graph) (n : ℕ) : Type 0 where
  pub nodes : (j : ℕ) → n ≤ j → node_at h j ≡ node_at g j
  pub priorities : (j : ℕ) → priority_at h j ≡ priority_at g j
  pub props : (q : ℕ) → q < length g.props → prop_at h q ≡ prop_at g q
  pub actions : (a : ℕ) → action_at h a ≡ action_at g a

later : (g h : Graph) (n j : ℕ) → n ≤ j → Keeps g h n → Keeps g h j
later g h n j more k = record { nodes = λ i le. k.nodes i (omega (arith, le, more)); priorities = k.priorities; props = k.props; actions = k.actions }

module _ (g h : Graph) (ok : IsGraph g) where
  node_kept : (n j : ℕ) → Keeps g h n → n ≤ j → (v : _) (p : ℕ) → IsNode g j v p → IsNode h j v p
  node_kept n j k le v p is = (k.nodes j le ∙ is.0, k.priorities j ∙ is.1)

  literal_kept : (n j : ℕ)
      → Keeps g h n
      → n ≤ j
      → j < size g
      → (name : List ℕ) (sign : Bool) (p : ℕ)
      → IsLiteral g j name sign p
      → IsLiteral h j name sign p
  literal_kept n j k le low name sign p is =
      (is.0, node_kept n j k le _ p is.1, k.props is.0 (prop_in_range g ok j low is.0 sign is.1.0) ∙ is.2)

  joins_kept : (op : Operator) (p i l r : ℕ) → Keeps g h (positive i) → Joins g p op i l r → Joins h p op i l r
  joins_kept operator.And p i l r k s =
      (node_kept (positive i) (positive i) k (omega arith) _ _ s.0, node_kept (positive i) (negative i) k (omega arith) _ _ s.1)
  joins_kept operator.Or p i l r k s =
      (node_kept (positive i) (positive i) k (omega arith) _ _ s.0, node_kept (positive i) (negative i) k (omega arith) _ _ s.1)
  joins_kept operator.Implies p i l r k s =
      (node_kept (positive i) (positive i) k (omega arith) _ _ s.0, node_kept (positive i) (negative i) k (omega arith) _ _ s.1)
  joins_kept operator.Iff p i l r k s = (
    node_kept (positive i) (positive i) k (omega arith) _ _ s.0,
    node_kept (positive i) (negative i) k (omega arith) _ _ s.1,
    node_kept (positive i) (positive (i + 1)) k (omega arith) _ _ s.2,
    node_kept (positive i) (negative (i + 1)) k (omega arith) _ _ s.3,
    node_kept (positive i) (positive (i + 2)) k (omega arith) _ _ s.4,
    node_kept (positive i) (negative (i + 2)) k (omega arith) _ _ s.5,
  )

  pub stands_kept : (f : Formula) (p : ℕ) (bs : Around) (i : ℕ)
      → Keeps g h (positive i)
      → 2 * (i + occurrences f) ≤ size g
      → StandsAt g p bs i f → StandsAt h p bs i f
  stands_kept (Const b) p bs i k room s =
      (node_kept (positive i) (positive i) k (omega arith) _ _ s.0, node_kept (positive i) (negative i) k (omega arith) _ _ s.1)
  stands_kept (Prop q) p bs i k room s = (
    literal_kept (positive i) (positive i) k (omega arith) (omega (arith, room)) q true p s.0,
    literal_kept (positive i) (negative i) k (omega arith) (omega (arith, room)) q false p s.1,
  )
  stands_kept (Var x) p bs i k room s =
      (node_kept (positive i) (positive i) k (omega arith) _ _ s.0, node_kept (positive i) (negative i) k (omega arith) _ _ s.1)
  stands_kept (Not f) p bs i k room s = (
    node_kept (positive i) (positive i) k (omega arith) _ _ s.0,
    node_kept (positive i) (negative i) k (omega arith) _ _ s.1,
    stands_kept f p bs (i + 1) (later g h (positive i) (positive (i + 1)) (omega arith) k) (omega (arith, room)) s.2,
  )
  stands_kept (Binary op f e) p bs i k room s =
      let l = i + weight op in
      let r = l + occurrences f in (
        joins_kept op p i l r k s.0,
        stands_kept f p bs l (later g h (positive i) (positive l) (omega arith) k) (omega (arith, room)) s.1,
        stands_kept e p bs r (later g h (positive i) (positive r) (omega arith) k) (omega (arith, room)) s.2,
      )
  stands_kept (Modal d a f) p bs i k room s = (
    (s.0.0, node_kept (positive i) (positive i) k (omega arith) _ _ s.0.1, k.actions s.0.0 ∙ s.0.2),
    (s.1.0, node_kept (positive i) (negative i) k (omega arith) _ _ s.1.1, k.actions s.1.0 ∙ s.1.2),
    stands_kept f p bs (i + 1) (later g h (positive i) (positive (i + 1)) (omega arith) k) (omega (arith, room)) s.2,
  )
  stands_kept (Binder q x f) p bs i k room s = (
    node_kept (positive i) (positive i) k (omega arith) _ _ s.0,
    node_kept (positive i) (negative i) k (omega arith) _ _ s.1,
    stands_kept f p ((x, i) ∷ bs) (i + 1) (later g h (positive i) (positive (i + 1)) (omega arith) k) (omega (arith, room)) s.2,
  )

-- ---- names

abbrev pub longest : List (List ℕ) → ℕ
longest [] = 0
longest (p ∷ ps) = length p + longest ps

abbrev pub longest_row : List (List (List ℕ)) → ℕ
longest_row [] = 0
longest_row (r ∷ rs) = longest r + longest_row rs

abbrev pub longest_prop : Formula → ℕ
longest_prop (Const b) = 0
longest_prop (Prop p) = length p
longest_prop (Var x) = 0
longest_prop (Not f) = longest_prop f
longest_prop (Binary op f e) = longest_prop f + longest_prop e
longest_prop (Modal d a f) = longest_prop f
longest_prop (Binder q x f) = longest_prop f

longer_by : (name : List ℕ) (ps : List (List ℕ)) → longest ps < length name → IsLonger name ps
longer_by name [] long = tt
longer_by name (p ∷ ps) long = (omega (arith, long), longer_by name ps (omega (arith, long)))

row_within : (rows : List (List (List ℕ))) (s : ℕ) → longest (slice_index_or rows s []) ≤ longest_row rows
row_within [] s = omega arith
row_within (r ∷ rs) zero = omega arith
row_within (r ∷ rs) (suc s) = let more = row_within rs s in omega (arith, more)

props_kept : (m0 m : Structure) (name : List ℕ) (U : StateSet) (f : Formula)
    → m.states ≡ m0.states
    → longest_prop f < length name
    → PropsAgree m0 m f → PropsAgree m0 (marked m name U) f
props_kept m0 m name U (Const b) same long agree = tt
props_kept m0 m name U (Prop p) same long agree = λ s low. marked_others m name U s p (omega (arith, same, low)) long ∙ agree s low
props_kept m0 m name U (Var x) same long agree = tt
props_kept m0 m name U (Not f) same long agree = props_kept m0 m name U f same long agree
props_kept m0 m name U (Binary op f e) same long agree =
    (props_kept m0 m name U f same (omega (arith, long)) agree.0, props_kept m0 m name U e same (omega (arith, long)) agree.1)
props_kept m0 m name U (Modal d a f) same long agree = props_kept m0 m name U f same long agree
props_kept m0 m name U (Binder q x f) same long agree = props_kept m0 m name U f same long agree

-- a name longer than all that occur
abbrev pub fresh : Graph → Structure → Formula → List ℕ
fresh g m f = replicate (1 + (longest g.props + (longest_row m.labels + longest_prop f))) 0

module _ (g : Graph) (m : Structure) (f : Formula) where
  fresh_length : length (fresh g m f) ≡ 1 + (longest g.props + (longest_row m.labels + longest_prop f))
  fresh_length = length-replicate (1 + (longest g.props + (longest_row m.labels + longest_prop f))) 0

  pub fresh_props : IsLonger (fresh g m f) g.props
  fresh_props = longer_by (fresh g m f) g.props (omega (arith, fresh_length))

  pub fresh_labels : (s : ℕ) → IsLonger (fresh g m f) (slice_index_or m.labels s [])
  fresh_labels s = longer_by (fresh g m f) (slice_index_or m.labels s []) (omega (arith, fresh_length, row_within m.labels s))

  pub fresh_formula : longest_prop f < length (fresh g m f)
  fresh_formula = omega (arith, fresh_length)

  -- a proposition of the graph is shorter
  pub prop_short : (q : ℕ) → q < length g.props → length (prop_at g q) < length (fresh g m f)
  prop_short q low = longer_differs (fresh g m f) g.props (prop_at g q) fresh_props (place-member g.props q [] low)

-- ---- the situation of the body

module _ (m0 : Structure) (gs : Given) (q : Fixpoint) (x : List ℕ) (f : Formula) (g : Graph) (m : Structure) (k : ℕ) (bs : Around) (b : ℕ)
    (w : Situation m0 gs (Binder q x f) g m k bs b) (U : StateSet) (long : length U ≡ m0.states) where
  abbrev pub name : List ℕ
  name = fresh g m f

  abbrev pub opened : Graph
  opened = cut g b name

  abbrev pub telling : Structure
  telling = marked m name U

  pub node_inside : negative b < size g
  node_inside = omega (arith, w.room)

  pub opened_graph : IsGraph opened
  opened_graph = cut_graph g b name node_inside w.is_graph (fresh_props g m f)

  pub telling_structure : IsStructure telling
  telling_structure = marked_structure m name U w.is_structure

  keeps : Keeps g opened (positive (b + 1))
  keeps = record {
    nodes = λ j le. cut_others g b name node_inside j (λ e. omega (arith, e, le)) (λ e. omega (arith, e, le));
    priorities = λ j. refl;
    props = λ p low. cut_prop g b name node_inside p low;
    actions = λ a. refl;
  }

  -- the new proposition is true at the states of the set
  pub told_value : (s : ℕ) → s < m.states → lists telling s (prop_at opened (length g.props)) ≡ is_member U s
  told_value s low = ap (lists telling s) (cut_name g b name node_inside) ∙ marked_name m name U s low (fresh_labels g m f s)

  pub told_here : IsTold opened telling b U
  told_here = record {
    prop = length g.props;
    inside = omega (arith, node_inside, cut_size g b name node_inside);
    positive_is = cut_positive g b name node_inside;
    negative_is = cut_negative g b name node_inside;
    told = told_value;
  }

  told_kept : (cs : Around) (ss : Given) → AreOutside b cs → AreTold g m cs ss → AreTold opened telling cs ss
  told_kept [] [] outside told = tt
  told_kept [] (s ∷ ss) outside told = absurd told
  told_kept (c ∷ cs) [] outside told = absurd told
  told_kept (c ∷ cs) (s ∷ ss) outside told =
      let t = told.1 in
      let low = prop_in_range g w.is_graph (positive c.1) (omega (arith, t.inside)) t.prop true t.positive_is in (
        told.0,
        record {
          prop = t.prop;
          inside = omega (arith, t.inside, cut_size g b name node_inside);
          positive_is =
              cut_others g b name node_inside (positive c.1) (λ e. omega (arith, e, outside.0))
              (λ e. omega (arith, e, outside.0))
              ∙ t.positive_is;
          negative_is =
              cut_others g b name node_inside (negative c.1) (λ e. omega (arith, e, outside.0))
              (λ e. omega (arith, e, outside.0))
              ∙ t.negative_is;
          told =
              λ n n_low. ap (lists telling n) (cut_prop g b name node_inside t.prop low)
              ∙ marked_others m name U n (prop_at g t.prop) n_low (prop_short g m f t.prop low)
              ∙ t.told n n_low;
        },
        told_kept cs ss outside.1 told.2,
      )

  pub inner : Situation m0 ((x, U) ∷ gs) f opened telling k ((x, b) ∷ bs) (b + 1)
  inner = record {
    is_graph = opened_graph;
    is_structure = telling_structure;
    same_states = w.same_states;
    same_edges = w.same_edges;
    props = props_kept m0 m name U f w.same_states (fresh_formula g m f) w.props;
    stands = stands_kept g opened w.is_graph f k ((x, b) ∷ bs) (b + 1) keeps (omega (arith, w.room)) w.stands.2;
    told = (refl, told_here, told_kept bs gs w.outside w.told);
    flags = (long, w.flags);
    bound = w.bound;
    positives = (and_parts (occurs_only true x f) (is_positive f) w.positives).1;
    room = omega (arith, w.room, cut_size g b name node_inside);
    high = omega (arith, w.high);
    outside = (omega arith, outside_more b (b + 1) bs (omega arith) w.outside);
  }
