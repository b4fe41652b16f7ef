-- States of a graph, marked node by node.
--
--   inside, goes_inside == a node that isn't True, as nodes past the end are, or that goes on, is one of the graph
--   marked_one         == one mark more
--   begun              == node 0 is marked
--   marked_more        == what one node more makes states is marked
--   makes_states, states_made == what nodes make states, and node 0, are the states
--   all_marked         == so they are marked
use Rattle.std.proofs.Common.{ℕ, ◌≡◌, ◌+◌, ◌<◌, ◌≤◌, ◌⊎◌, inl, inr, ⊎_elim, arith, Bool, true, false, List, length, set, replicate, refl, sym, ap, ◌∙◌, subst}
use Rattle.std.proofs.lemmas.Bool.{cases_eq, cases_lt}
use Rattle.std.proofs.lemmas.List.{get_or-replicate, get_or-set_other, get_or-set_same, get_or_past, length-replicate, length-set}
use Rattle.ml_graph.specs.Graph.{Graph, node_at, size}
use Rattle.ml_graph.specs.declared.node.Node.{Node}
use Rattle.ml_graph.specs.declared.node.Node.TheVariants as node
use Rattle.ml_word_automaton.specs.Letters.{GoesOn, IsState, begins, behind, is_true}
use Rattle.ml_word_automaton.specs.private.Numbers.{AreMarked, AreMarkedBelow, IsMadeBelow, IsMarkedMore, Makes, mark}

-- a node that isn't True is one of the graph
pub inside : (g : Graph) (n : ℕ) → (node_at g n ≡ node.True → ⊥) → n < size g
inside g n other =
    ⊎_elim (λ (low : n < size g). low) (λ (high : size g ≤ n). absurd (other (get_or_past g.nodes n node.True high)))
    (cases_lt n (size g))

-- so is one that goes on
pub goes_inside : (g : Graph) (k n : ℕ) → GoesOn (node_at g k) n → k < size g
goes_inside g k n goes = inside g k (λ e. subst (λ v. GoesOn v n) e goes)

-- ---- marks

pub marked_one : (xs : List Bool) (i : ℕ) → i < length xs → IsMarkedMore (λ n. n ≡ i) xs (set xs i true)
marked_one xs i low = record {
  as_long = length-set xs i true;
  marked = λ n. (there n (cases_eq n i), back n);
}
  where
    there : (n : ℕ) → (n ≡ i) ⊎ (n ≡ i → ⊥) → mark (set xs i true) n ≡ true → (mark xs n ≡ true) ⊎ (n ≡ i)
    there n (inl is) e = inr is
    there n (inr other) e = inl (sym (get_or-set_other xs i n true false other) ∙ e)

    back : (n : ℕ) → (mark xs n ≡ true) ⊎ (n ≡ i) → mark (set xs i true) n ≡ true
    back n (inr is) = ap (mark (set xs i true)) is ∙ get_or-set_same xs i true false low
    back n (inl old) =
        ⊎_elim
        (λ (is : n ≡ i). ap (mark (set xs i true)) is ∙ get_or-set_same xs i true false low)
        (λ (other : n ≡ i → ⊥). get_or-set_other xs i n true false other ∙ old)
        (cases_eq n i)

-- node 0 is marked, and nothing else
pub begun : (g : Graph) (size : ℕ) → 0 < size → AreMarkedBelow 0 g (set (replicate size false) 0 true)
begun g size some n = (there, back)
  where
    more : IsMarkedMore (λ n. n ≡ 0) (replicate size false) (set (replicate size false) 0 true)
    more = marked_one (replicate size false) 0 (let long = length-replicate size false in omega (arith, long, some))

    none : (m : ℕ) → mark (replicate size false) m ≡ true → ⊥
    none m e =
        ⊎_elim (λ (low : m < size). let is = get_or-replicate size m false false low in cc)
        (λ (high : size ≤ m).
        let long = length-replicate size false in
        let is = get_or_past (replicate size false) m false (omega (arith, long, high)) in
        cc)
        (cases_lt m size)

    there : mark (set (replicate size false) 0 true) n ≡ true → IsMadeBelow 0 g n
    there e = by_part ((more.marked n).0 e)
      where
        by_part : (mark (replicate size false) n ≡ true) ⊎ (n ≡ 0) → IsMadeBelow 0 g n
        by_part (inl old) = absurd (none n old)
        by_part (inr is) = inl is

    back : IsMadeBelow 0 g n → mark (set (replicate size false) 0 true) n ≡ true
    back (inl is) = (more.marked n).1 (inr is)
    back (inr (j, low, made)) = absurd (omega (arith, low))

-- what one node more makes states is marked
pub marked_more : (k : ℕ) (g : Graph) (xs ys : List Bool)
    → AreMarkedBelow k g xs
    → IsMarkedMore (Makes g (node_at g k)) xs ys
    → AreMarkedBelow (k + 1) g ys
marked_more k g xs ys before more n = (there, back)
  where
    earlier : IsMadeBelow k g n → IsMadeBelow (k + 1) g n
    earlier (inl is) = inl is
    earlier (inr (j, low, made)) = inr (j, omega (arith, low), made)

    there : mark ys n ≡ true → IsMadeBelow (k + 1) g n
    there e =
        ⊎_elim (λ (old : mark xs n ≡ true). earlier ((before n).0 old))
        (λ (made : Makes g (node_at g k) n). inr (k, omega arith, made))
        ((more.marked n).0 e)

    back : IsMadeBelow (k + 1) g n → mark ys n ≡ true
    back (inl is) = (more.marked n).1 (inl ((before n).1 (inl is)))
    back (inr (j, low, made)) =
        ⊎_elim
        (λ (is : j ≡ k). (more.marked n).1 (inr (subst (λ i. Makes g (node_at g i) n) is made)))
        (λ (other : j ≡ k → ⊥). (more.marked n).1 (inl ((before n).1 (inr (j, omega (arith, low, other), made)))))
        (cases_eq j k)

-- ---- states

makes_states : (g : Graph) (k n : ℕ) (v : Node) → node_at g k ≡ v → Makes g v n → IsState g n
makes_states g k n (node.Diamond a q) e made =
    subst (IsState g) (sym made) (behind k a q e)
makes_states g k n (node.And l r) e made = is_true k n (subst (λ v. GoesOn v n) (sym e) made.0) made.1
makes_states g k n (node.Or l r) e made = is_true k n (subst (λ v. GoesOn v n) (sym e) made.0) made.1
makes_states g k n node.True e made = absurd made.0
makes_states g k n node.False e made = absurd made.0
makes_states g k n (node.Lit p b) e made = absurd made.0
makes_states g k n (node.Square a q) e made = absurd made.0

states_made : (g : Graph) (n : ℕ) → IsState g n → IsMadeBelow (size g) g n
states_made g _ begins = inl refl
states_made g n (behind d a _ e) =
    inr (d, inside g d (λ t. let wrong = sym e ∙ t in cc), subst (λ v. Makes g v n) (sym e) refl)
states_made g n (is_true k _ goes t) = inr (k, goes_inside g k n goes, by_node (node_at g k) goes)
  where
    by_node : (v : Node) → GoesOn v n → Makes g v n
    by_node (node.And l r) goes = (goes, t)
    by_node (node.Or l r) goes = (goes, t)
    by_node node.True goes = absurd goes
    by_node node.False goes = absurd goes
    by_node (node.Lit p b) goes = absurd goes
    by_node (node.Diamond a q) goes = absurd goes
    by_node (node.Square a q) goes = absurd goes

pub all_marked : (g : Graph) (marks : List Bool) (k : ℕ)
    → length marks ≡ size g
    → k ≡ size g
    → AreMarkedBelow k g marks
    → AreMarked g marks
all_marked g marks k long all marked = record { as_long = long; states = λ n. (there n, back n) }
  where
    there : (n : ℕ) → mark marks n ≡ true → IsState g n
    there n e =
        ⊎_elim (λ (is : n ≡ 0). subst (IsState g) (sym is) begins)
        (λ (made : (j : ℕ) × (j < k) × Makes g (node_at g j) n).
        makes_states g made.0 n (node_at g made.0) refl made.2)
        ((marked n).0 e)

    back : (n : ℕ) → IsState g n → mark marks n ≡ true
    back n is =
        (marked n).1 (⊎_elim (λ (first : n ≡ 0). inl first)
        (λ (made : (j : ℕ) × (j < size g) × Makes g (node_at g j) n).
        inr (made.0, subst (λ m. made.0 < m) (sym all) made.1, made.2))
        (states_made g n is))
