-- References of nodes: which is the first that is out of range, and what there is where none is.
--
--   first_bad-append  == of two lists of references, the first bad one is in the first, or else in the second
--   first_bad_field   == the nodes from place i on: a bad field of node i, or else one of a later node
--   all_in_range      == where no reference is bad, all are in range
--   none_bad          == and the other way round
--   found             == a node's bad field is the first of all, where the nodes before it have none
--   no_graph          == lists with a bad reference are no graph
--   root_in_range     == the root of a graph is a node
--   field_in_range    == a field of a node is in range
--   prop_in_range, diamond_action, diamond_target, square_action, square_target, and_left, and_right, or_left, or_right
--                     == the same, of each field
use Rattle.std.proofs.Common.{◌≡◌, ℕ, suc, ◌+◌, ◌<◌, Bool, true, false, cond, nat_le, List, [], ◌∷◌, ◌++◌, length, get_or, drop, Option, Some}
use Rattle.std.proofs.Common.{None, find, All, inl, inr, refl, subst, sym, ap, ◌∙◌, append_assoc, add-one, drop-cons}
use Rattle.std.specs.List.{flat_map}
use Rattle.std.specs.Option.{option_or, option_map}
use Rattle.std.proofs.lemmas.List.Folds.{find-append}
use Rattle.std.proofs.lemmas.List.Elements.{All-nil, All-cons, All-head, All-tail}
use Rattle.std.proofs.lemmas.Bool.{leb-false, lt-leb}
use Rattle.ml_lists.specs.Member.{IsMember}
use Rattle.ml_lists.proofs.Member.{All-member, member-append_left, member-append_right, member-flat_map, place-member}
use Rattle.ml_graph.specs.declared.node.Node.{Node}
use Rattle.ml_graph.specs.declared.node.Node.TheVariants as node
use Rattle.ml_graph.specs.Graph.{Graph, size, node_at, Reference, references, references_from, references_of, IsGraph}
use Rattle.ml_graph.specs.Building.{first_bad}

option_map-or : {A B : Type 0}
    → (f : A → B) (o p : Option A)
    → option_map f (option_or o p) ≡ option_or (option_map f o) (option_map f p)
option_map-or f None p = refl
option_map-or f (Some x) p = refl

-- the first bad reference is in the first list, or else in the second
pub first_bad-append : (xs ys : List Reference) → first_bad (xs ++ ys) ≡ option_or (first_bad xs) (first_bad ys)
first_bad-append xs ys =
    ap (option_map (λ (r : Reference). r.number)) (find-append (λ (r : Reference). nat_le r.bound r.number) xs ys)
    ∙ option_map-or (λ (r : Reference). r.number) (find (λ (r : Reference). nat_le r.bound r.number) xs)
    (find (λ (r : Reference). nat_le r.bound r.number) ys)

-- of the nodes from place i on, it is in node i, or else in a later one
pub first_bad_node : (f : Node → List Reference) (nodes : List Node) (i : ℕ) (rest : List Reference) → i < length nodes
    → first_bad (flat_map f (drop i nodes) ++ rest)
    ≡ option_or (first_bad (f (get_or nodes i node.True))) (first_bad (flat_map f (drop (i + 1) nodes) ++ rest))
first_bad_node f nodes i rest low =
    rw (add-one, drop-cons nodes i node.True low)
    (rw append_assoc
    (first_bad-append (f (get_or nodes i node.True)) (flat_map f (drop (suc i) nodes) ++ rest)))

-- a test that found nothing
passed : (b : Bool) (x : Reference) (o : Option Reference)
    → option_map (λ (r : Reference). r.number) (cond b (Some x) o) ≡ None
    → (b ≡ false) × (option_map (λ (r : Reference). r.number) o ≡ None)
passed true x o e = cc
passed false x o e = (refl, e)

-- where no reference is bad, all are in range
pub all_in_range : (refs : List Reference) → first_bad refs ≡ None → All (λ r. r.number < r.bound) refs
all_in_range [] e = All-nil (λ (r : Reference). r.number < r.bound)
all_in_range (r ∷ refs) e =
    let here = passed (nat_le r.bound r.number) r (find (λ (x : Reference). nat_le x.bound x.number) refs) e in
    All-cons (λ (x : Reference). x.number < x.bound) r refs (leb-false r.bound r.number here.0)
    (all_in_range refs here.1)

-- and where all are in range, none is bad
pub none_bad : (refs : List Reference) → All (λ r. r.number < r.bound) refs → first_bad refs ≡ None
none_bad [] all = refl
none_bad (r ∷ refs) all =
    let here = lt-leb r.bound r.number (All-head (λ (x : Reference). x.number < x.bound) r refs all) in
    let rest = none_bad refs (All-tail (λ (x : Reference). x.number < x.bound) r refs all) in
    ap (λ (b : Bool). option_map (λ (x : Reference). x.number)
    (cond b (Some r) (find (λ (x : Reference). nat_le x.bound x.number) refs))) here ∙ rest

-- what a node has that is out of range is the first of all, where the nodes before it have nothing
pub found : (nodes : List Node) (root p a i k : ℕ) → i < length nodes
    → Some k ≡ first_bad (references_of (length nodes) p a (get_or nodes i node.True))
    → first_bad (references_from nodes root p a)
    ≡ first_bad (flat_map (references_of (length nodes) p a)
    (drop i nodes) ++ record { number = root; bound = length nodes } ∷ [])
    → Some k ≡ first_bad (references_from nodes root p a)
found nodes root p a i k low here before =
    let rest : List Reference = record { number = root; bound = length nodes } ∷ [] in
    let f : Node → List Reference = references_of (length nodes) p a in
    sym (before
    ∙ first_bad_node f nodes i rest low
    ∙ ap (λ (o : Option ℕ). option_or o (first_bad (flat_map f (drop (i + 1) nodes) ++ rest))) (sym here))

-- a list with a number out of range is no graph
pub no_graph : (g : Graph) (k : ℕ) → first_bad (references g) ≡ Some k → IsGraph g → ⊥
no_graph g k bad ok = let none = none_bad (references g) ok.in_range in cc

-- the root of a graph is a node
pub root_in_range : (g : Graph) → IsGraph g → g.root < size g
root_in_range g ok =
    let r : Reference = record { number = g.root; bound = size g } in
    let nodes : List Reference = flat_map (references_of (size g) (length g.props) (length g.actions)) g.nodes in
    All-member (λ (x : Reference). x.number < x.bound) (references g) ok.in_range r
    (member-append_right r nodes (r ∷ []) (inl refl))

-- what a node of a graph refers to is in range
module _ (g : Graph) (ok : IsGraph g) (n : ℕ) (low : n < size g) where
  pub field_in_range : (r : Reference)
      → IsMember r (references_of (size g) (length g.props) (length g.actions) (node_at g n))
      → r.number < r.bound
  field_in_range r m =
      let f : Node → List Reference = references_of (size g) (length g.props) (length g.actions) in
      let in_nodes = member-flat_map f (node_at g n) r g.nodes (place-member g.nodes n node.True low) m in
      All-member (λ (x : Reference). x.number < x.bound) (references g) ok.in_range r
      (member-append_left r (flat_map f g.nodes) (record { number = g.root; bound = size g } ∷ []) in_nodes)

  -- a field of a node whose references are known
  field_of : (x : Node) → node_at g n ≡ x → (r : Reference)
      → IsMember r (references_of (size g) (length g.props) (length g.actions) x) → r.number < r.bound
  field_of x is r m = field_in_range r
      (subst (λ y. IsMember r (references_of (size g) (length g.props) (length g.actions) y)) (sym is) m)

  pub prop_in_range : (p : ℕ) (positive : Bool) → node_at g n ≡ node.Lit p positive → p < length g.props
  prop_in_range p positive is = field_of (node.Lit p positive) is (record { number = p; bound = length g.props })
      (inl refl)

  pub diamond_action : (a to : ℕ) → node_at g n ≡ node.Diamond a to → a < length g.actions
  diamond_action a to is = field_of (node.Diamond a to) is (record { number = a; bound = length g.actions }) (inl refl)

  pub diamond_target : (a to : ℕ) → node_at g n ≡ node.Diamond a to → to < size g
  diamond_target a to is = field_of (node.Diamond a to) is (record { number = to; bound = size g }) (inr (inl refl))

  pub square_action : (a to : ℕ) → node_at g n ≡ node.Square a to → a < length g.actions
  square_action a to is = field_of (node.Square a to) is (record { number = a; bound = length g.actions }) (inl refl)

  pub square_target : (a to : ℕ) → node_at g n ≡ node.Square a to → to < size g
  square_target a to is = field_of (node.Square a to) is (record { number = to; bound = size g }) (inr (inl refl))

  pub and_left : (l r : ℕ) → node_at g n ≡ node.And l r → l < size g
  and_left l r is = field_of (node.And l r) is (record { number = l; bound = size g }) (inl refl)

  pub and_right : (l r : ℕ) → node_at g n ≡ node.And l r → r < size g
  and_right l r is = field_of (node.And l r) is (record { number = r; bound = size g }) (inr (inl refl))

  pub or_left : (l r : ℕ) → node_at g n ≡ node.Or l r → l < size g
  or_left l r is = field_of (node.Or l r) is (record { number = l; bound = size g }) (inl refl)

  pub or_right : (l r : ℕ) → node_at g n ≡ node.Or l r → r < size g
  or_right l r is = field_of (node.Or l r) is (record { number = r; bound = size g }) (inr (inl refl))
