-- Walks by the numbers of the propositions that are true are walks under a letter.
--
--   member_there, member_back, member_test == whether a number is one of a list
--   onward_short            == a walk goes on in two ways at most
--   goes_on, goes_low, come_low == it goes on as a block does, to nodes of the graph
--   true_there, true_back   == which nodes are true
--   walks_there, walks_back == which walks there are
use Rattle.std.proofs.Common.{ℕ, ◌≡◌, ◌<◌, ◌≤◌, ◌↔◌, ◌==◌, ◌||◌, inl, inr, ⊎_elim, arith, Bool, true, false, if◌then◌else◌, List, [], ◌∷◌, length, refl, sym, ◌∙◌, subst, eqb-true, eq-eqb}
use Rattle.std.specs.Cmp.{booleans_Decides}
use Rattle.std.proofs.lemmas.Bool.{cases_Bool, false≢true, or_cases}
use Rattle.std.proofs.lemmas.Bool as bools
use Rattle.ml_lists.specs.Member.{IsMember}
use Rattle.ml_lists.proofs.Member.{list_any-member, member-list_any}
use Rattle.ml_graph.specs.Graph.{Graph, IsGraph, node_at, prop_at, size}
use Rattle.ml_graph.specs.declared.node.Node.{Node}
use Rattle.ml_graph.specs.declared.node.Node.TheVariants as node
use Rattle.ml_graph.proofs.References.{and_left, and_right, or_left, or_right, prop_in_range}
use Rattle.ml_word_automaton.specs.Letters.{AreThoseIn, GoesOn}
use Rattle.ml_word_automaton.specs.WordAutomaton as automaton
use Rattle.ml_word_automaton.specs.WordAutomaton.{IsTrueIn, IsTrueNode, Walks, past_same, past_true, to_left, to_right}
use Rattle.ml_word_automaton.specs.Words.{Letter, has}
use Rattle.ml_word_automaton.specs.private.Walking.{Comes, itself, further, has_number, is_true_node, onward, onward_at}

pub member_there : (present : List ℕ) (p : ℕ) → IsMember p present → has_number present p ≡ true
member_there present p m = member-list_any (λ q. q == p) p present m (eq-eqb p p refl)

pub member_back : (present : List ℕ) (p : ℕ) → has_number present p ≡ true → IsMember p present
member_back present p e =
    let some = list_any-member (λ q. q == p) present e in
    subst (λ q. IsMember q present) (eqb-true some.item p some.passes) some.member

pub member_test : (present : List ℕ) (p : ℕ) (b : Bool) → (b ≡ true) ↔ IsMember p present → b ≡ has_number present p
member_test present p true exactly = sym (member_there present p (exactly.0 refl))
member_test present p false exactly = by_test (has_number present p) refl
  where
    by_test : (c : Bool) → has_number present p ≡ c → false ≡ c
    by_test true e = absurd (false≢true (exactly.1 (member_back present p e)))
    by_test false e = refl

-- ---- where a walk goes on

only_one : (b : Bool) (r m : ℕ) → IsMember m (if b then r ∷ [] else []) → (b ≡ true) × (m ≡ r)
only_one true r m (inl is) = (refl, is)
only_one true r m (inr none) = absurd none
only_one false r m none = absurd none

some_one : (b : Bool) (r : ℕ) → b ≡ true → IsMember r (if b then r ∷ [] else [])
some_one b r e = subst (λ c. IsMember r (if c then r ∷ [] else [])) (sym e) (inl refl)

short_one : (b : Bool) (r : ℕ) → length (if b then r ∷ [] else []) ≤ 2
short_one true r = omega arith
short_one false r = omega arith

module _ (g : Graph) (present : List ℕ) where
  pub onward_short : (n : ℕ) → length (onward g present n) ≤ 2
  onward_short n = by_node (node_at g n)
    where
      by_node : (v : Node) → length (onward_at g present v) ≤ 2
      by_node (node.And l r) = short_one ((l == r) || is_true_node present (node_at g l)) r
      by_node (node.Or l r) = omega arith
      by_node node.True = omega arith
      by_node node.False = omega arith
      by_node (node.Lit p b) = omega arith
      by_node (node.Diamond a q) = omega arith
      by_node (node.Square a q) = omega arith

  -- it goes on as a block does
  pub goes_on : (n m : ℕ) → IsMember m (onward g present n) → GoesOn (node_at g n) m
  goes_on n m i = by_node (node_at g n) i
    where
      by_node : (v : Node) → IsMember m (onward_at g present v) → GoesOn v m
      by_node (node.And l r) i = (only_one ((l == r) || is_true_node present (node_at g l)) r m i).1
      by_node (node.Or l r) (inl is) = inl is
      by_node (node.Or l r) (inr (inl is)) = inr is
      by_node (node.Or l r) (inr (inr none)) = absurd none
      by_node node.True none = absurd none
      by_node node.False none = absurd none
      by_node (node.Lit p b) none = absurd none
      by_node (node.Diamond a q) none = absurd none
      by_node (node.Square a q) none = absurd none

  module _ (ok : IsGraph g) where
    pub goes_low : (n m : ℕ) → n < size g → GoesOn (node_at g n) m → m < size g
    goes_low n m low goes = by_node (node_at g n) refl goes
      where
        by_node : (v : Node) → node_at g n ≡ v → GoesOn v m → m < size g
        by_node (node.And l r) e is = subst (λ k. k < size g) (sym is) (and_right g ok n low l r e)
        by_node (node.Or l r) e (inl is) = subst (λ k. k < size g) (sym is) (or_left g ok n low l r e)
        by_node (node.Or l r) e (inr is) = subst (λ k. k < size g) (sym is) (or_right g ok n low l r e)
        by_node node.True e none = absurd none
        by_node node.False e none = absurd none
        by_node (node.Lit p b) e none = absurd none
        by_node (node.Diamond a q) e none = absurd none
        by_node (node.Square a q) e none = absurd none

    pub come_low : (s n : ℕ) → s < size g → Comes (onward g present) s n → n < size g
    come_low s _ low itself = low
    come_low s m low (further n _ comes i) = goes_low n m (come_low s n low comes) (goes_on n m i)

    -- ---- under a letter

    module _ (letter : Letter) (are : AreThoseIn g letter present) where
      same_truth : (p : ℕ) → p < length g.props → has_number present p ≡ has letter (prop_at g p)
      same_truth p low = by_test (has letter (prop_at g p)) refl
        where
          by_test : (b : Bool) → has letter (prop_at g p) ≡ b → has_number present p ≡ b
          by_test true e = member_there present p ((are p low).1 e)
          by_test false e =
              ⊎_elim
              (λ (t : has_number present p ≡ true).
              absurd (false≢true (sym e ∙ (are p low).0 (member_back present p t))))
              (λ (f : has_number present p ≡ false). f)
              (cases_Bool (has_number present p))

      true_there : (n : ℕ) → n < size g → is_true_node present (node_at g n) ≡ true → IsTrueIn g letter n
      true_there n low t = by_node (node_at g n) refl t
        where
          by_node : (v : Node) → node_at g n ≡ v → is_true_node present v ≡ true → IsTrueNode g letter v
          by_node node.True e t = tt
          by_node (node.Lit p b) e t =
              sym (same_truth p (prop_in_range g ok n low p b e)) ∙ (booleans_Decides (has_number present p) b).0 t
          by_node node.False e t = absurd (false≢true t)
          by_node (node.And l r) e t = absurd (false≢true t)
          by_node (node.Or l r) e t = absurd (false≢true t)
          by_node (node.Diamond a q) e t = absurd (false≢true t)
          by_node (node.Square a q) e t = absurd (false≢true t)

      true_back : (n : ℕ) → n < size g → IsTrueIn g letter n → is_true_node present (node_at g n) ≡ true
      true_back n low t = by_node (node_at g n) refl t
        where
          by_node : (v : Node) → node_at g n ≡ v → IsTrueNode g letter v → is_true_node present v ≡ true
          by_node node.True e t = refl
          by_node (node.Lit p b) e t =
              (booleans_Decides (has_number present p) b).1 (same_truth p (prop_in_range g ok n low p b e) ∙ t)
          by_node node.False e none = absurd none
          by_node (node.And l r) e none = absurd none
          by_node (node.Or l r) e none = absurd none
          by_node (node.Diamond a q) e none = absurd none
          by_node (node.Square a q) e none = absurd none

      step_there : (s n m : ℕ) → n < size g → Walks g letter s n → IsMember m (onward g present n) → Walks g letter s m
      step_there s n m low walks i = by_node (node_at g n) refl i
        where
          by_node : (v : Node) → node_at g n ≡ v → IsMember m (onward_at g present v) → Walks g letter s m
          by_node (node.And l r) e i =
              let one = only_one ((l == r) || is_true_node present (node_at g l)) r m i in
              subst (Walks g letter s) (sym one.1)
              (⊎_elim
              (λ (same : (l == r) ≡ true). past_same n l r walks e (eqb-true l r same))
              (λ (t : is_true_node present (node_at g l) ≡ true).
              past_true n l r walks e (true_there l (and_left g ok n low l r e) t))
              (or_cases (l == r) (is_true_node present (node_at g l)) one.0))
          by_node (node.Or l r) e (inl is) = subst (Walks g letter s) (sym is) (to_left n l r walks e)
          by_node (node.Or l r) e (inr (inl is)) = subst (Walks g letter s) (sym is) (to_right n l r walks e)
          by_node (node.Or l r) e (inr (inr none)) = absurd none
          by_node node.True e none = absurd none
          by_node node.False e none = absurd none
          by_node (node.Lit p b) e none = absurd none
          by_node (node.Diamond a q) e none = absurd none
          by_node (node.Square a q) e none = absurd none

      pub walks_there : (s n : ℕ) → s < size g → Comes (onward g present) s n → Walks g letter s n
      walks_there s _ low itself = automaton.itself
      walks_there s m low (further n _ comes i) =
          step_there s n m (come_low s n low comes) (walks_there s n low comes) i

      -- a walk goes on from a node of this form
      abbrev Leads : ℕ → Node → ℕ → Type 0
      Leads n v m = node_at g n ≡ v → IsMember m (onward_at g present v) → IsMember m (onward g present n)

      leads : (n m : ℕ) (v : Node) → Leads n v m
      leads n m v e i = subst (λ w. IsMember m (onward_at g present w)) (sym e) i

      pub walks_back : (s n : ℕ) → s < size g → Walks g letter s n → Comes (onward g present) s n
      walks_back s _ low automaton.itself = itself
      walks_back s _ low (past_same n l r walks e same) =
          further n r (walks_back s n low walks)
          (leads n r (node.And l r) e
          (some_one ((l == r) || is_true_node present (node_at g l)) r
          (bools.or_left (l == r) (is_true_node present (node_at g l)) (eq-eqb l r same))))
      walks_back s _ low (past_true n l r walks e t) =
          let comes = walks_back s n low walks in
          let l_low = and_left g ok n (come_low s n low comes) l r e in
          further n r comes
          (leads n r (node.And l r) e
          (some_one ((l == r) || is_true_node present (node_at g l)) r
          (bools.or_right (l == r) (is_true_node present (node_at g l)) (true_back l l_low t))))
      walks_back s _ low (to_left n l r walks e) =
          further n l (walks_back s n low walks) (leads n l (node.Or l r) e (inl refl))
      walks_back s _ low (to_right n l r walks e) =
          further n r (walks_back s n low walks) (leads n r (node.Or l r) e (inr (inl refl)))
