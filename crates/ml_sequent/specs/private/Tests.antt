-- Tests of nodes. Only private contracts and proofs cite what stands here.
--
--   is_false x          == is x False?
--   is_negative p x     == is x the negative literal of proposition p?
--   negative_prop x, positive_prop x == the proposition of a negative literal, and of a positive one
--   negative_of g nodes p == the first negative literal of p on the list
--   HasNegatives g nodes firsts == for each proposition of the graph, that
--   partner g nodes x   == if x is a positive literal, the first node of the list that is the negative literal of its
--                          proposition
--   IsFirstPair, IsFirstOddCycle == the first node of a list with a partner, and the first on an odd cycle
use Rattle.std.specs.Prelude.{ℕ, ◌≡◌, ◌<◌, ◌==◌, Bool, true, false, List, Option, Some, None, length, get_or, find}
use Rattle.ml_lists.specs.Member.{IsMember}
use Rattle.ml_graph.specs.declared.node.Node.{Node}
use Rattle.ml_graph.specs.declared.node.Node.TheVariants as node
use Rattle.ml_graph.specs.Graph.{Graph, node_at}
use Rattle.ml_sequent.specs.declared.choice.Side.{Side}
use Rattle.ml_sequent.specs.Spread.{IsOddCycle}

abbrev pub is_false : Node → Bool
is_false node.True = false
is_false node.False = true
is_false (node.Lit p positive) = false
is_false (node.And l r) = false
is_false (node.Or l r) = false
is_false (node.Diamond a to) = false
is_false (node.Square a to) = false

-- the negative literal of p, where b is its sign
abbrev pub negative_sign : ℕ → ℕ → Bool → Bool
negative_sign p q true = false
negative_sign p q false = q == p

abbrev pub is_negative : ℕ → Node → Bool
is_negative p node.True = false
is_negative p node.False = false
is_negative p (node.Lit q positive) = negative_sign p q positive
is_negative p (node.And l r) = false
is_negative p (node.Or l r) = false
is_negative p (node.Diamond a to) = false
is_negative p (node.Square a to) = false

-- the first negative literal of p on the list
abbrev pub negative_of : Graph → List ℕ → ℕ → Option ℕ
negative_of g nodes p = find (λ n. is_negative p (node_at g n)) nodes

-- the proposition of a literal with this sign, if it is negative, and if it is positive
abbrev pub if_negative : ℕ → Bool → Option ℕ
if_negative p true = None
if_negative p false = Some p

abbrev pub if_positive : ℕ → Bool → Option ℕ
if_positive p true = Some p
if_positive p false = None

-- the proposition of a negative literal
abbrev pub negative_prop : Node → Option ℕ
negative_prop node.True = None
negative_prop node.False = None
negative_prop (node.Lit p positive) = if_negative p positive
negative_prop (node.And l r) = None
negative_prop (node.Or l r) = None
negative_prop (node.Diamond a to) = None
negative_prop (node.Square a to) = None

-- the proposition of a positive literal
abbrev pub positive_prop : Node → Option ℕ
positive_prop node.True = None
positive_prop node.False = None
positive_prop (node.Lit p positive) = if_positive p positive
positive_prop (node.And l r) = None
positive_prop (node.Or l r) = None
positive_prop (node.Diamond a to) = None
positive_prop (node.Square a to) = None

-- the first negative literal of the proposition, if there is a proposition
abbrev pub partner_of : Graph → List ℕ → Option ℕ → Option ℕ
partner_of g nodes None = None
partner_of g nodes (Some p) = negative_of g nodes p

abbrev pub partner : Graph → List ℕ → Node → Option ℕ
partner g nodes x = partner_of g nodes (positive_prop x)

-- for each proposition of the graph, the first negative literal of it on the list
pub record HasNegatives (g : Graph) (nodes : List ℕ) (firsts : List (Option ℕ)) : Type 0 where
  pub sizes : length firsts ≡ length g.props
  pub firsts_are : (p : ℕ) → p < length g.props → get_or firsts p None ≡ negative_of g nodes p

-- q.0 is the first node of the list that has a partner on it, and q.1 its partner
pub record IsFirstPair (g : Graph) (nodes : List ℕ) (q : ℕ × ℕ) : Type 0 where
  pub member : IsMember q.0 nodes
  pub has : partner g nodes (node_at g q.0) ≡ Some q.1
  pub first : (n : ℕ) → IsMember n nodes → n < q.0 → partner g nodes (node_at g n) ≡ None

-- n is the first node of the list on an odd cycle
pub record IsFirstOddCycle (g : Graph) (c : List (ℕ × Side)) (nodes : List ℕ) (n : ℕ) : Type 0 where
  pub member : IsMember n nodes
  pub is : IsOddCycle g c n
  pub first : (m : ℕ) → IsMember m nodes → m < n → IsOddCycle g c m → ⊥
