-- Lists of nodes and priorities that stand in a graph from an occurrence on.
--
--   Stand g i nodes priorities == these lists stand in g as the occurrence i, and behind it
--   pair                       == the two nodes of the first occurrence, and what stands behind them
--   joined                     == the nodes of a connective, and what stands behind them
--   parts                      == two parts behind one another, of which the first has so many occurrences
--   all_stand                  == the lists of a graph stand in it
use Rattle.std.proofs.Common.{◌≡◌, ℕ, ◌+◌, ◌*◌, List, [], ◌∷◌, ◌++◌, length, append-nil, refl, sym, subst, ◌∙◌, arith}
use Rattle.ml_graph.specs.Graph.{Graph}
use Rattle.ml_graph.specs.declared.node.Node.{Node}
use Rattle.ml_graph.specs.declared.node.Node.TheVariants as node
use Rattle.ml_text.specs.declared.token.Operator.{Operator}
use Rattle.ml_text.specs.declared.token.Operator.TheVariants as operator
use Rattle.ml_text.specs.Operators.{weight}
use Rattle.ml_nodes.specs.Nodes.{IsNode, Joins, negative, positive}
use Rattle.ml_nodes.specs.private.Connectives.{operator_nodes, operator_priorities}
use Rattle.ml_nodes.proofs.Holding.{Holds, held_first, held_later, held_left, held_right, held_at}

pub record Stand (g : Graph) (i : ℕ) (nodes : List Node) (priorities : List ℕ) : Type 0 where
  pub nodes_held : Holds g.nodes (2 * i) nodes
  pub priorities_held : Holds g.priorities (2 * i) priorities

pub record Pair (g : Graph) (i : ℕ) (a b : Node) (p q : ℕ) (nodes : List Node) (priorities : List ℕ) : Type 0 where
  pub first : IsNode g (positive i) a p
  pub second : IsNode g (negative i) b q
  pub behind : Stand g (i + 1) nodes priorities

pub pair : (g : Graph) (i : ℕ) (a b : Node) (p q : ℕ) (nodes : List Node) (priorities : List ℕ)
    → Stand g i (a ∷ b ∷ nodes) (p ∷ q ∷ priorities)
    → Pair g i a b p q nodes priorities
pair g i a b p q nodes priorities s =
    let n = 2 * i in
    let h = s.nodes_held in
    let k = s.priorities_held in
    let h1 = held_later g.nodes n a (b ∷ nodes) h in
    let k1 = held_later g.priorities n p (q ∷ priorities) k in
    record {
      first = (held_first g.nodes n a (b ∷ nodes) node.True h, held_first g.priorities n p (q ∷ priorities) 0 k);
      second = (held_first g.nodes (n + 1) b nodes node.True h1, held_first g.priorities (n + 1) q priorities 0 k1);
      behind = record {
        nodes_held =
            held_at g.nodes (n + 1 + 1) (2 * (i + 1)) nodes (omega arith) (held_later g.nodes (n + 1) b nodes h1);
        priorities_held =
            held_at g.priorities (n + 1 + 1) (2 * (i + 1)) priorities (omega arith)
            (held_later g.priorities (n + 1) q priorities k1);
      };
    }

pub record Joined (g : Graph) (k : ℕ) (op : Operator) (i l r : ℕ) (nodes : List Node) (priorities : List ℕ) : Type 0 where
  pub joins : Joins g k op i l r
  pub behind : Stand g (i + weight op) nodes priorities

pub joined : (g : Graph) (k : ℕ) (op : Operator) (i l r : ℕ) (nodes : List Node) (priorities : List ℕ)
    → Stand g i (operator_nodes op i l r ++ nodes) (operator_priorities op k ++ priorities)
    → Joined g k op i l r nodes priorities
joined g k operator.And i l r nodes priorities s =
    let p = pair g i _ _ k k nodes priorities s in record { joins = (p.first, p.second); behind = p.behind }
joined g k operator.Or i l r nodes priorities s =
    let p = pair g i _ _ k k nodes priorities s in record { joins = (p.first, p.second); behind = p.behind }
joined g k operator.Implies i l r nodes priorities s =
    let p = pair g i _ _ k k nodes priorities s in record { joins = (p.first, p.second); behind = p.behind }
joined g k operator.Iff i l r nodes priorities s =
    let p = pair g i _ _ k k _ _ s in
    let q = pair g (i + 1) _ _ k k _ _ p.behind in
    let t = pair g (i + 1 + 1) _ _ k k nodes priorities q.behind in
    let two : i + 1 + 1 ≡ i + 2 = omega arith in
    let three : i + 1 + 1 + 1 ≡ i + 3 = omega arith in
    record {
      joins = (
        p.first,
        p.second,
        q.first,
        q.second,
        subst (λ n. IsNode g (positive n) (node.And (negative l) (negative r)) k) two t.first,
        subst (λ n. IsNode g (negative n) (node.And (negative l) (positive r)) k) two t.second,
      );
      behind = subst (λ n. Stand g n nodes priorities) three t.behind;
    }

pub record Parts (g : Graph) (l r : ℕ) (xs ys : List Node) (ps qs : List ℕ) : Type 0 where
  pub left : Stand g l xs ps
  pub right : Stand g r ys qs

pub parts : (g : Graph) (l r size : ℕ) (xs ys : List Node) (ps qs : List ℕ)
    → Stand g l (xs ++ ys) (ps ++ qs)
    → length xs ≡ 2 * size
    → length ps ≡ 2 * size
    → r ≡ l + size
    → Parts g l r xs ys ps qs
parts g l r size xs ys ps qs s long wide is = record {
  left = record {
    nodes_held = held_left g.nodes (2 * l) xs ys s.nodes_held;
    priorities_held = held_left g.priorities (2 * l) ps qs s.priorities_held;
  };
  right = record {
    nodes_held =
        held_at g.nodes (2 * l + length xs) (2 * r) ys (omega (arith, long, is))
        (held_right g.nodes (2 * l) xs ys s.nodes_held);
    priorities_held =
        held_at g.priorities (2 * l + length ps) (2 * r) qs (omega (arith, wide, is))
        (held_right g.priorities (2 * l) ps qs s.priorities_held);
  };
}

whole : {A : Type 0} (xs ys : List A) → xs ≡ ys → Holds xs 0 ys
whole xs ys is = record { before = []; behind = []; split = is ∙ sym (append-nil ys); starts = refl }

pub all_stand : (g : Graph) (nodes : List Node) (priorities : List ℕ)
    → g.nodes ≡ nodes
    → g.priorities ≡ priorities
    → Stand g 0 nodes priorities
all_stand g nodes priorities nodes_are priorities_are = record {
  nodes_held = whole g.nodes nodes nodes_are;
  priorities_held = whole g.priorities priorities priorities_are;
}
