-- A graph with one binder cut open, and the structure that tells it a set.
--
-- The two nodes of the occurrence b become the two literals of a new proposition, which is true at the states of the set.
-- Whatever doesn't speak of these two nodes and of the new proposition stays as it is.
--
--   longest names         == the length of the longest of the names
--   IsFresh name g m      == the name is longer than every proposition of the graph and every label of the structure
--   cut g b name          == the graph with the binder at b cut open
--   marked m name U       == the structure in which the name is true at the states of U
--   cut_node, cut_others  == its nodes
--   cut_graph             == it is a graph
--   marked_structure      == it is a structure
--   marked_name, marked_others == where the new proposition is true, and where the others are
use Rattle.std.proofs.Common.{◌≡◌, ◌≢◌, ℕ, ◌+◌, ◌<◌, ◌≤◌, Bool, true, false, ◌||◌, List, [], ◌∷◌, ◌++◌, length, map, slice_index_or, if◌then◌else◌, inl, inr, refl, sym, ap, subst, ◌∙◌, ⊎_elim, arith}
use Rattle.std.proofs.Math.ListN.{set}
use Rattle.std.specs.List.{list_any, flat_map, range_with_len}
use Rattle.std.specs.Str.{bytes_eq}
use Rattle.std.proofs.lemmas.Bool.{cases_eq, cases_Bool}
use Rattle.std.proofs.lemmas.List.{get_or-set_same, get_or-set_other, length-set, get_or_append_left, get_or_push}
use Rattle.std.proofs.lemmas.List.FromFn.{length-map-range_with_len, get_or-map-range_with_len}
use Rattle.std.proofs.lemmas.List.Folds.{list_any-append}
use Rattle.std.proofs.lemmas.Map.Keys.{IsDistinct-push}
use Rattle.std.proofs.lemmas.Slice.Eq.{bytes_eq-Decides}
use Rattle.ml_lists.specs.Member.{IsMember}
use Rattle.ml_lists.proofs.Member.{member-append, member-flat_map_from, member-All, member-place}
use Rattle.ml_base.specs.Structure.{Structure, IsStructure, StateSet, lists, is_member}
use Rattle.ml_graph.specs.Graph.{Graph, Reference, IsGraph, size, node_at, prop_at, references, references_of}
use Rattle.ml_graph.specs.declared.node.Node.{Node}
use Rattle.ml_graph.specs.declared.node.Node.TheVariants as node
use Rattle.std.specs.Cmp.Lexicographic.{nat_list_eq_equiv}
use Rattle.std.proofs.Common.{length-append}
use Rattle.ml_graph.proofs.References.{field_in_range, root_in_range}
use Rattle.ml_nodes.specs.Nodes.{positive, negative}

abbrev pub cut : Graph → ℕ → List ℕ → Graph
cut g b name = record {
  nodes = set (set g.nodes (positive b) (node.Lit (length g.props) true)) (negative b) (node.Lit (length g.props) false);
  priorities = g.priorities;
  root = g.root;
  props = g.props ++ name ∷ [];
  actions = g.actions;
}

abbrev pub marked : Structure → List ℕ → StateSet → Structure
marked m name U = record {
  states = m.states;
  labels = map (λ s. (if is_member U s then name ∷ [] else []) ++ slice_index_or m.labels s []) (range_with_len 0 m.states);
  edges = m.edges;
}

-- longer than each of these names
abbrev pub IsLonger : List ℕ → List (List ℕ) → Type 0
IsLonger name [] = Unit {0}
IsLonger name (p ∷ ps) = (length p < length name) × IsLonger name ps

pub longer_differs : (name : List ℕ) (ps : List (List ℕ)) (p : List ℕ)
    → IsLonger name ps
    → IsMember p ps
    → length p < length name
longer_differs name (q ∷ ps) p longer (inl e) = omega (arith, ap length e, longer.0)
longer_differs name (q ∷ ps) p longer (inr later) = longer_differs name ps p longer.1 later
longer_differs name [] p longer h = absurd h

shorter_differs : (name p : List ℕ) → length p < length name → bytes_eq name p ≡ false
shorter_differs name p short =
    ⊎_elim
    (λ (e : bytes_eq name p ≡ true). absurd (omega (arith, ap length ((bytes_eq-Decides name p).0 e))))
    (λ (e : bytes_eq name p ≡ false). e)
    (cases_Bool (bytes_eq name p))

not_among : (name : List ℕ) (ps : List (List ℕ)) → IsLonger name ps → list_any (bytes_eq name) ps ≡ false
not_among name [] longer = refl
not_among name (p ∷ ps) longer = ap (λ b. b || list_any (bytes_eq name) ps) (shorter_differs name p longer.0) ∙ not_among name ps longer.1

-- ---- the graph

module _ (g : Graph) (b : ℕ) (name : List ℕ) (inside : negative b < size g) where
  pub cut_size : size (cut g b name) ≡ size g
  cut_size = length-set (set g.nodes (positive b) _) (negative b) _ ∙ length-set g.nodes (positive b) _

  pub cut_positive : node_at (cut g b name) (positive b) ≡ node.Lit (length g.props) true
  cut_positive =
      get_or-set_other (set g.nodes (positive b) (node.Lit (length g.props) true)) (negative b) (positive b)
      (node.Lit (length g.props) false) node.True (λ e. omega (arith, e))
      ∙ get_or-set_same g.nodes (positive b) (node.Lit (length g.props) true) node.True (omega (arith, inside))

  pub cut_negative : node_at (cut g b name) (negative b) ≡ node.Lit (length g.props) false
  cut_negative =
      get_or-set_same (set g.nodes (positive b) (node.Lit (length g.props) true)) (negative b) (node.Lit (length g.props) false) node.True
      (omega (arith, inside, length-set g.nodes (positive b) (node.Lit (length g.props) true)))

  pub cut_others : (n : ℕ) → n ≢ positive b → n ≢ negative b → node_at (cut g b name) n ≡ node_at g n
  cut_others n not_p not_n =
      get_or-set_other (set g.nodes (positive b) (node.Lit (length g.props) true)) (negative b) n (node.Lit (length g.props) false) node.True not_n
      ∙ get_or-set_other g.nodes (positive b) n (node.Lit (length g.props) true) node.True not_p

  pub cut_prop : (q : ℕ) → q < length g.props → prop_at (cut g b name) q ≡ prop_at g q
  cut_prop q low = get_or_append_left g.props (name ∷ []) [] q low

  pub cut_name : prop_at (cut g b name) (length g.props) ≡ name
  cut_name = get_or_push g.props name [] (length g.props) refl

  more_props : length (cut g b name).props ≡ length g.props + 1
  more_props = length-append g.props (name ∷ [])

  -- a node refers to nothing that it didn't refer to, in a graph with more propositions
  grown : (x : Node) (n p q a : ℕ) → p ≤ q → ((r : Reference) → IsMember r (references_of n p a x) → r.number < r.bound)
      → (r : Reference) → IsMember r (references_of n q a x) → r.number < r.bound
  grown node.True n p q a more old r h = old r h
  grown node.False n p q a more old r h = old r h
  grown (node.Lit prop sign) n p q a more old r (inl e) =
      let low = old (record { number = prop; bound = p }) (inl refl) in
      omega (arith, low, more, ap (λ x. x.number) e, ap (λ x. x.bound) e)
  grown (node.Lit prop sign) n p q a more old r (inr none) = absurd none
  grown (node.And l s) n p q a more old r h = old r h
  grown (node.Or l s) n p q a more old r h = old r h
  grown (node.Diamond c to) n p q a more old r h = old r h
  grown (node.Square c to) n p q a more old r h = old r h

  new_literal : (sign : Bool) (r : Reference)
      → IsMember r (references_of (size g) (length (cut g b name).props) (length g.actions) (node.Lit (length g.props) sign))
      → r.number < r.bound
  new_literal sign r (inl e) = omega (arith, more_props, ap (λ x. x.number) e, ap (λ x. x.bound) e)
  new_literal sign r (inr none) = absurd none

  pub cut_graph : IsGraph g → IsLonger name g.props → IsGraph (cut g b name)
  cut_graph ok fresh = record {
    priorities = ok.priorities ∙ sym cut_size;
    in_range = member-All (λ r. r.number < r.bound) (references (cut g b name)) each;
    props_differ = IsDistinct-push nat_list_eq_equiv g.props name ok.props_differ (not_among name g.props fresh);
    actions_differ = ok.actions_differ;
  }
    where
      old_node : (n : ℕ)
          → n < size g
          → (r : Reference)
          → IsMember r (references_of (size g) (length g.props) (length g.actions) (node_at g n))
          → r.number < r.bound
      old_node n low r h = field_in_range g ok n low r h

      at_node : (n : ℕ)
          → n < size g
          → (r : Reference)
          → IsMember r (references_of (size g) (length (cut g b name).props) (length g.actions) (node_at (cut g b name) n))
          → r.number < r.bound
      at_node n low r h =
          ⊎_elim
          (λ (e : n ≡ positive b). new_literal true r
          (subst (λ x. IsMember r (references_of (size g) (length (cut g b name).props) (length g.actions) x))
          (ap (node_at (cut g b name)) e ∙ cut_positive) h))
          (λ (not_p : n ≢ positive b).
          ⊎_elim
          (λ (e : n ≡ negative b). new_literal false r
          (subst (λ x. IsMember r (references_of (size g) (length (cut g b name).props) (length g.actions) x))
          (ap (node_at (cut g b name)) e ∙ cut_negative) h))
          (λ (not_n : n ≢ negative b).
          grown (node_at g n) (size g) (length g.props) (length (cut g b name).props) (length g.actions)
          (omega (arith, more_props)) (old_node n low) r
          (subst (λ x. IsMember r (references_of (size g) (length (cut g b name).props) (length g.actions) x)) (cut_others n not_p not_n) h))
          (cases_eq n (negative b)))
          (cases_eq n (positive b))

      each : (r : Reference) → IsMember r (references (cut g b name)) → r.number < r.bound
      each r h =
          ⊎_elim
          (λ (of_nodes : IsMember r (flat_map (references_of (size (cut g b name)) (length (cut g b name).props) (length g.actions)) (cut g b name).nodes)).
          let list =
          member-flat_map_from (references_of (size (cut g b name)) (length (cut g b name).props) (length g.actions)) r
          (cut g b name).nodes of_nodes
          in
          let place = member-place list.from (cut g b name).nodes list.member in
          at_node place.place (omega (arith, place.below, cut_size)) r
          (subst (λ k. IsMember r (references_of k (length (cut g b name).props) (length g.actions) (node_at (cut g b name) place.place))) cut_size
          (subst
          (λ x. IsMember r (references_of (size (cut g b name)) (length (cut g b name).props) (length g.actions) x))
          (sym (place.holds node.True)) list.inside)))
          (λ (of_root : IsMember r (record { number = g.root; bound = size (cut g b name) } ∷ [])). root_one of_root)
          (member-append r
          (flat_map (references_of (size (cut g b name)) (length (cut g b name).props) (length g.actions))
          (cut g b name).nodes)
          (record { number = g.root; bound = size (cut g b name) } ∷ []) h)
        where
          root_one : IsMember r (record { number = g.root; bound = size (cut g b name) } ∷ []) → r.number < r.bound
          root_one (inl e) = omega (arith, root_in_range g ok, cut_size, ap (λ x. x.number) e, ap (λ x. x.bound) e)
          root_one (inr none) = absurd none

-- ---- the structure

module _ (m : Structure) (name : List ℕ) (U : StateSet) where
  pub marked_structure : IsStructure m → IsStructure (marked m name U)
  marked_structure ok = record {
    has_state = ok.has_state;
    labels_states = length-map-range_with_len (λ s. (if is_member U s then name ∷ [] else []) ++ slice_index_or m.labels s []) 0 m.states;
    joins_states = ok.joins_states;
  }

  row : (s : ℕ)
      → s < m.states
      → slice_index_or (marked m name U).labels s [] ≡ (if is_member U s then name ∷ [] else []) ++ slice_index_or m.labels s []
  row s low =
      get_or-map-range_with_len (λ t. (if is_member U t then name ∷ [] else []) ++ slice_index_or m.labels t []) 0
      m.states s s [] low (omega arith)

  with_row : (s : ℕ) (p : List ℕ) → s < m.states
      → lists (marked m name U) s p ≡ (list_any (λ q. bytes_eq q p) (if is_member U s then name ∷ [] else []) || lists m s p)
  with_row s p low =
      ap (list_any (λ q. bytes_eq q p)) (row s low)
      ∙ list_any-append (λ q. bytes_eq q p) (if is_member U s then name ∷ [] else []) (slice_index_or m.labels s [])

  -- the other propositions are true where they were
  pub marked_others : (s : ℕ) (p : List ℕ)
      → s < m.states
      → length p < length name
      → lists (marked m name U) s p ≡ lists m s p
  marked_others s p low short = with_row s p low ∙ ap (λ b. b || lists m s p) (by_flag (is_member U s))
    where
      by_flag : (b : Bool) → list_any (λ q. bytes_eq q p) (if b then name ∷ [] else []) ≡ false
      by_flag true = ap (λ b. b || false) (shorter_differs name p short)
      by_flag false = refl

  none_there : (ps : List (List ℕ)) → IsLonger name ps → list_any (λ q. bytes_eq q name) ps ≡ false
  none_there [] longer = refl
  none_there (p ∷ ps) longer =
      ap (λ b. b || list_any (λ q. bytes_eq q name) ps)
      (nat_list_eq_equiv.symm p name ∙ shorter_differs name p longer.0)
      ∙ none_there ps longer.1

  -- and the new one at the states of the set
  pub marked_name : (s : ℕ)
      → s < m.states
      → IsLonger name (slice_index_or m.labels s [])
      → lists (marked m name U) s name ≡ is_member U s
  marked_name s low longer =
      with_row s name low
      ∙ ap (λ b. list_any (λ q. bytes_eq q name) (if is_member U s then name ∷ [] else []) || b)
      (none_there (slice_index_or m.labels s []) longer)
      ∙ by_flag (is_member U s)
    where
      by_flag : (b : Bool) → (list_any (λ q. bytes_eq q name) (if b then name ∷ [] else []) || false) ≡ b
      by_flag true = ap (λ c. (c || false) || false) ((bytes_eq-Decides name name).1 refl)
      by_flag false = refl
