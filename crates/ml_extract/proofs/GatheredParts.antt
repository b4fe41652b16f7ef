-- Labels and edges as they are gathered, state by state.
--
--   names_are       == the names in a state's spread are its labels
--   standing        == a number of a list stands at its place, the only one where nothing stands twice
--   once            == no state begins where another one does
--   none_gathered   == at the beginning there are none
--   one_more        == with the labels and the edges of one state more
--   labels_more, edges_more == with the labels of one node more, and the edge of one diamond more
--   is_model        == what is built of the labels and edges of all states is the model
use Rattle.std.proofs.Common.{ℕ, zero, suc, ◌≡◌, ◌+◌, ◌<◌, ◌⊎◌, inl, inr, true, false, List, [], ◌∷◌, ◌++◌, length, get_or}
use Rattle.std.proofs.Common.{slice_get, slice_index_or, map, take, nat_eq, Option, Some, is_some, IsSome, refl, sym, ap, ◌∙◌, subst, arith, append_assoc, append-nil}
use Rattle.std.specs.List.{zip, flat_map, list_any}
use Rattle.std.proofs.lemmas.Bool.{cases_eq}
use Rattle.std.proofs.lemmas.Bool.Decides.{nat_tests}
use Rattle.std.proofs.lemmas.Grind.{flat_map-append}
use Rattle.std.proofs.lemmas.List.{get_or_default, length-map, map-append, take_more}
use Rattle.std.proofs.lemmas.List.Sums.{position_or_len_is}
use Rattle.std.proofs.lemmas.Option.{slice_get_within, slice_get-get_or, get_or_from_slice_get}
use Rattle.std.proofs.lemmas.Slice.Zip.{length-zip, get_or-zip}
use Rattle.ml_base.specs.declared.structure.Edge.{Edge}
use Rattle.ml_base.specs.Structure.{Structure, IsStructure}
use Rattle.ml_kripke.specs.Ordered.{IsOrdered}
use Rattle.ml_kripke.specs.Built.{IsBuiltFrom}
use Rattle.ml_lists.specs.Member.{IsMember}
use Rattle.ml_lists.proofs.BreadthFirst.{AreOnce, each_once-is, row_inside}
use Rattle.ml_lists.proofs.Member.{Image, member-append, member-append_left, member-append_right, member-map, member-map_from, member-flat_map, InList, member-flat_map_from, Place, member-place}
use Rattle.ml_lists.proofs.Members.{member_of_contains, contains_of_member}
use Rattle.ml_graph.specs.declared.node.Node.{Node}
use Rattle.ml_graph.specs.declared.node.Node.TheVariants as node
use Rattle.ml_graph.specs.Graph.{Graph, node_at, prop_at}
use Rattle.ml_parity.specs.Solution.{GameSolution}
use Rattle.ml_product.specs.Arena.{Arena}
use Rattle.ml_product.proofs.ArenaGame.{same_entry}
use Rattle.ml_lists.proofs.Member.{member_of_get}
use Rattle.ml_extract.specs.Model.{State, IsLabel, IsModelEdge, IsModelOf, nexts, next_positions}
use Rattle.ml_extract.specs.private.Gathered.{names_of, names_in, labelled, action_of, place_of, edge_to, HasLabel, AreGathered}
use Rattle.ml_extract.specs.private.Numbered.{AreNumbered}
use Rattle.ml_extract.proofs.Numbering.{leading_diamond}
use Rattle.ml_extract.proofs.GrowingFirst.{known, once_differ}
use Rattle.ml_base.proofs.Edges.{same_edge}

-- ---- names

record IsNamed (g : Graph) (x : Node) (name : List ℕ) : Type 0 where
  pub prop : ℕ
  pub is : x ≡ node.Lit prop true
  pub named : name ≡ prop_at g prop

named_by : (g : Graph) (x : Node) (name : List ℕ) → IsMember name (names_of g x) → IsNamed g x name
named_by g node.True name m = absurd m
named_by g node.False name m = absurd m
named_by g (node.Lit p true) name (inl same) = record { prop = p; is = refl; named = same }
named_by g (node.Lit p true) name (inr none) = absurd none
named_by g (node.Lit p false) name m = absurd m
named_by g (node.And l r) name m = absurd m
named_by g (node.Or l r) name m = absurd m
named_by g (node.Diamond a to) name m = absurd m
named_by g (node.Square a to) name m = absurd m

-- the names in a state's spread are its labels
pub labels_in : (g : Graph) (x : State) (name : List ℕ) → IsMember name (names_in g x.spread) → IsLabel g x name
labels_in g x name m = from (member-flat_map_from (λ n. names_of g (node_at g n)) name x.spread.nodes m)
  where
    from : InList (λ n. names_of g (node_at g n)) name x.spread.nodes → IsLabel g x name
    from i =
        let n = named_by g (node_at g i.from) name i.inside in
        record { literal = i.from; prop = n.prop; member = i.member; is_positive = n.is; named = n.named }

pub in_labels : (g : Graph) (x : State) (name : List ℕ) → IsLabel g x name → IsMember name (names_in g x.spread)
in_labels g x name l =
    member-flat_map (λ n. names_of g (node_at g n)) l.literal name x.spread.nodes l.member
    (subst (λ y. IsMember name (names_of g y)) (sym l.is_positive) (inl l.named))

-- ---- places

pub place_is : (fs : List ℕ) (v i : ℕ) → AreOnce fs → slice_get fs i ≡ Some v → place_of fs v ≡ i
place_is fs v i once is =
    let low = slice_get_within fs i v is in
    let entry = get_or_from_slice_get fs i v 0 is in
    position_or_len_is (nat_eq v) fs i 0 (omega arith)
    (λ k less. other k less (cases_eq v (get_or fs k 0)))
    (λ inside. let same : v ≡ get_or fs i 0 = sym entry in grind (arith, nat_tests))
  where
    other : (k : ℕ) → k < i → (v ≡ get_or fs k 0) ⊎ (v ≡ get_or fs k 0 → ⊥) → nat_eq v (get_or fs k 0) ≡ false
    other k less (inl same) =
        absurd (once_differ fs once k i less (slice_get_within fs i v is)
        (sym same ∙ sym (get_or_from_slice_get fs i v 0 is)))
    other k less (inr n) = grind (arith, nat_tests)

-- a number of a list stands at its place
pub record Standing (fs : List ℕ) (v : ℕ) : Type 0 where
  pub place : ℕ
  pub stands : slice_get fs place ≡ Some v
  pub is_place : place_of fs v ≡ place

pub standing : (fs : List ℕ) (v : ℕ) → AreOnce fs → IsMember v fs → Standing fs v
standing fs v once m = from (member-place v fs m)
  where
    from : Place v fs → Standing fs v
    from p =
        let stands = slice_get-get_or fs p.place v p.below ∙ ap Some (p.holds v) in
        record { place = p.place; stands = stands; is_place = place_is fs v p.place once stands }

-- ---- states

state_of_first : (xs : List State) (i v : ℕ) → slice_get (map (λ (x : State). x.first) xs) i ≡ Some v
    → (x : State) × (slice_get xs i ≡ Some x) × (x.first ≡ v)
state_of_first [] i v is = cc
state_of_first (x ∷ xs) zero v is = (x, refl, let e : x.first ≡ v = cc in e)
state_of_first (x ∷ xs) (suc i) v is = state_of_first xs i v is

pub first_of_state : (xs : List State) (i : ℕ) (x : State) → slice_get xs i ≡ Some x
    → slice_get (map (λ (y : State). y.first) xs) i ≡ Some x.first
first_of_state [] i x is = cc
first_of_state (y ∷ xs) zero x is = let e : y ≡ x = cc in ap (λ (z : State). Some z.first) e
first_of_state (y ∷ xs) (suc i) x is = first_of_state xs i x is

module _ (g : Graph) (a : Arena) (s : GameSolution) (fs ls : List ℕ) (n : AreNumbered g a s fs ls) where
  pub once : AreOnce fs
  once =
      subst AreOnce (n.firsts_are) (subst AreOnce (sym n.are_states.breadth_first.in_order)
      (each_once-is (0 ∷ flat_map (λ r. r) (map (next_positions g a) n.states))))

  -- each next position is one where a state begins
  pub begins_there : (x : State) → IsMember x n.states → (d v : ℕ) → IsMember (d, v) (nexts g a x) → IsMember v fs
  begins_there x inside d v leads =
      subst (IsMember v) n.firsts_are
      (row_inside 0 (map (next_positions g a) n.states) (map (λ
      (y : State). y.first) n.states) n.are_states.breadth_first
      (next_positions g a x) (member-map (next_positions g a) x n.states inside) v
      (member-map (λ (next : ℕ × ℕ). next.1) (d, v) (nexts g a x) leads))

  pub none_gathered : AreGathered g a n.states 0 [] []
  none_gathered = record {
    labels_are = λ i name. ((λ m. absurd m), (λ h. absurd (omega (arith, h.0))));
    edges_are = λ e. ((λ m. absurd m), (λ h. absurd (omega (arith, h.0))));
  }

  module _ (i : ℕ) (x : State) (is : slice_get n.states i ≡ Some x) where
    state_inside : IsMember x n.states
    state_inside = member_of_get n.states i x is

    edge_is : (e : Edge) → IsMember e (map (edge_to g fs i) (nexts g a x)) → (e.source ≡ i) × IsModelEdge g a n.states e
    edge_is e m = from (member-map_from (edge_to g fs i) e (nexts g a x) m)
      where
        from : Image (edge_to g fs i) e (nexts g a x) → (e.source ≡ i) × IsModelEdge g a n.states e
        from k =
            let d = leading_diamond g a x k.from.0 k.from.1 k.member in
            let at = standing fs k.from.1 once (begins_there x state_inside k.from.0 k.from.1 k.member) in
            let y =
            state_of_first n.states at.place k.from.1 (subst (λ vs. slice_get vs at.place ≡ Some k.from.1)
            (sym n.firsts_are) at.stands) in
            let source : e.source ≡ i = ap (λ (f : Edge). f.source) k.holds in
            let target : e.target ≡ at.place = ap (λ (f : Edge). f.target) k.holds ∙ at.is_place in (
              source,
              record {
                from = x;
                to = y.0;
                from_is = subst (λ j. slice_get n.states j ≡ Some x) (sym source) is;
                to_is = subst (λ j. slice_get n.states j ≡ Some y.0) (sym target) y.1;
                diamond = k.from.0;
                leads = subst (λ v. IsMember (k.from.0, v) (nexts g a x)) (sym y.2) k.member;
                action = d.action;
                child = d.child;
                is_diamond = d.is;
                action_is = ap (λ (f : Edge). f.action) k.holds ∙ ap (action_of g) d.is;
              },
            )

    is_edge : (e : Edge) → e.source ≡ i → IsModelEdge g a n.states e → IsMember e (map (edge_to g fs i) (nexts g a x))
    is_edge e source k =
        let same : x ≡ k.from =
        same_entry n.states i x k.from is (subst (λ j. slice_get n.states j ≡ Some k.from) source k.from_is) in
        let leads : IsMember (k.diamond, k.to.first) (nexts g a x) =
        subst (λ (y : State). IsMember (k.diamond, k.to.first) (nexts g a y)) (sym same) k.leads in
        let stands =
        subst (λ vs. slice_get vs e.target ≡ Some k.to.first) n.firsts_are
        (first_of_state n.states e.target k.to k.to_is) in
        let target : e.target ≡ place_of fs k.to.first = sym (place_is fs k.to.first e.target once stands) in
        let action : e.action ≡ action_of g (node_at g k.diamond) = k.action_is ∙ sym (ap (action_of g) k.is_diamond) in
        let e_is : edge_to g fs i (k.diamond, k.to.first) ≡ e =
        same_edge (edge_to g fs i (k.diamond, k.to.first)) e (sym source) (sym action) (sym target) in
        subst (λ f. IsMember f (map (edge_to g fs i) (nexts g a x))) e_is
        (member-map (edge_to g fs i) (k.diamond, k.to.first) (nexts g a x) leads)

    label_is : (k : ℕ) (name : List ℕ) → IsMember (k, name) (labelled i (names_in g x.spread))
        → (k ≡ i) × HasLabel g n.states k name
    label_is k name m = from (member-map_from (λ (y : List ℕ). (i, y)) (k, name) (names_in g x.spread) m)
      where
        from : Image {Y = ℕ × List ℕ} (λ (y : List ℕ). (i, y)) (k, name) (names_in g x.spread)
            → (k ≡ i) × HasLabel g n.states k name
        from j =
            let k_is : k ≡ i = ap (λ (p : ℕ × List ℕ). p.0) j.holds in
            let name_is : name ≡ j.from = ap (λ (p : ℕ × List ℕ). p.1) j.holds in (
              k_is,
              record {
                state = x;
                stands = subst (λ l. slice_get n.states l ≡ Some x) (sym k_is) is;
                is_label = labels_in g x name (subst (λ y. IsMember y (names_in g x.spread)) (sym name_is) j.member);
              },
            )

    is_label : (k : ℕ) (name : List ℕ) → k ≡ i → HasLabel g n.states k name
        → IsMember (k, name) (labelled i (names_in g x.spread))
    is_label k name k_is h =
        let same : h.state ≡ x =
        same_entry n.states i h.state x (subst (λ l. slice_get n.states l ≡ Some h.state) k_is h.stands) is in
        let m = in_labels g x name (subst (λ (y : State). IsLabel g y name) same h.is_label) in
        subst (λ l. IsMember (l, name) (labelled i (names_in g x.spread))) (sym k_is)
        (member-map (λ (y : List ℕ). (i, y)) name (names_in g x.spread) m)

    pub one_more : (labels more_labels : List (ℕ × List ℕ)) (edges more_edges : List Edge)
        → AreGathered g a n.states i labels edges
        → more_labels ≡ labels ++ labelled i (names_in g x.spread)
        → more_edges ≡ edges ++ map (edge_to g fs i) (nexts g a x)
        → AreGathered g a n.states (i + 1) more_labels more_edges
    one_more labels more_labels edges more_edges old labels_is edges_is = record {
      labels_are = λ k name. (label_there k name, label_back k name);
      edges_are = λ e. (edge_there e, edge_back e);
    }
      where
        new_labels : List (ℕ × List ℕ)
        new_labels = labelled i (names_in g x.spread)

        new_edges : List Edge
        new_edges = map (edge_to g fs i) (nexts g a x)

        label_there : (k : ℕ) (name : List ℕ) → IsMember (k, name) more_labels
            → (k < i + 1) × HasLabel g n.states k name
        label_there k name m =
            by_part (member-append (k, name) labels (labelled i (names_in g x.spread)) (subst (IsMember
            (k, name)) labels_is m))
          where
            by_part : IsMember (k, name) labels ⊎ IsMember (k, name) (labelled i (names_in g x.spread))
                → (k < i + 1) × HasLabel g n.states k name
            by_part (inl before) = let h = (old.labels_are k name).0 before in (omega (arith, h.0), h.1)
            by_part (inr here) = let h = label_is k name here in (omega (arith, h.0), h.1)

        label_back : (k : ℕ) (name : List ℕ) → (k < i + 1) × HasLabel g n.states k name → IsMember (k, name) more_labels
        label_back k name h = subst (IsMember (k, name)) (sym labels_is) (by_case (cases_eq k i))
          where
            by_case : (k ≡ i) ⊎ (k ≡ i → ⊥) → IsMember (k, name) (labels ++ labelled i (names_in g x.spread))
            by_case (inl same) =
                member-append_right (k, name) labels (labelled i (names_in g x.spread)) (is_label k name same h.1)
            by_case (inr other) =
                member-append_left (k, name) labels (labelled i (names_in g x.spread))
                ((old.labels_are k name).1 (omega (arith, h.0, other), h.1))

        edge_there : (e : Edge) → IsMember e more_edges → (e.source < i + 1) × IsModelEdge g a n.states e
        edge_there e m =
            by_part (member-append e edges (map (edge_to g fs i) (nexts g a x)) (subst (IsMember e) edges_is m))
          where
            by_part : IsMember e edges ⊎ IsMember e (map (edge_to g fs i) (nexts g a x))
                → (e.source < i + 1) × IsModelEdge g a n.states e
            by_part (inl before) = let h = (old.edges_are e).0 before in (omega (arith, h.0), h.1)
            by_part (inr here) = let h = edge_is e here in (omega (arith, h.0), h.1)

        edge_back : (e : Edge) → (e.source < i + 1) × IsModelEdge g a n.states e → IsMember e more_edges
        edge_back e h = subst (IsMember e) (sym edges_is) (by_case (cases_eq e.source i))
          where
            by_case : (e.source ≡ i) ⊎ (e.source ≡ i → ⊥) → IsMember e (edges ++ map (edge_to g fs i) (nexts g a x))
            by_case (inl same) =
                member-append_right e edges (map (edge_to g fs i) (nexts g a x)) (is_edge e same h.1)
            by_case (inr other) =
                member-append_left e edges (map (edge_to g fs i) (nexts g a x))
                ((old.edges_are e).1 (omega (arith, h.0, other), h.1))

  pub is_model : (m : Structure) (labels : List (ℕ × List ℕ)) (edges : List Edge)
      → AreGathered g a n.states (length ls) labels edges
      → IsStructure m → IsOrdered m → IsBuiltFrom (length ls) labels edges m
      → IsModelOf g a s m 0
  is_model m labels edges old structure ordered built = record {
    states = n.states;
    are_states = n.are_states;
    starts = refl;
    a_state_each = built.has_states ∙ sym sizes;
    labels_each = structure.labels_states ∙ built.has_states ∙ sym sizes;
    labels = λ i x is name. (label_there i x is name, label_back i x is name);
    edges = λ e. (edge_there e, edge_back e);
    nothing_twice = ordered;
  }
    where
      sizes : length n.states ≡ length ls
      sizes = sym (length-map n.states (λ (y : State). y.last)) ∙ ap length n.lasts_are

      label_there : (i : ℕ) (x : State) → slice_get n.states i ≡ Some x → (name : List ℕ)
          → IsMember name (slice_index_or m.labels i [])
          → IsLabel g x name
      label_there i x is name inside =
          let h =
          ((old.labels_are i name).0 (member_of_contains (i, name) labels
          ((built.has_labels i name).0 (contains_of_member name (slice_index_or m.labels i []) inside)))).1 in
          subst (λ (y : State). IsLabel g y name) (same_entry n.states i h.state x h.stands is) h.is_label

      label_back : (i : ℕ) (x : State) → slice_get n.states i ≡ Some x → (name : List ℕ)
          → IsLabel g x name
          → IsMember name (slice_index_or m.labels i [])
      label_back i x is name l =
          let low : i < length ls = omega (arith, slice_get_within n.states i x is, sizes) in
          member_of_contains name (slice_index_or m.labels i [])
          ((built.has_labels i name).1 (contains_of_member (i, name) labels
          ((old.labels_are i name).1 (low, record { state = x; stands = is; is_label = l }))))

      edge_there : (e : Edge) → IsMember e m.edges → IsModelEdge g a n.states e
      edge_there e inside =
          ((old.edges_are e).0 (member_of_contains e edges
          ((built.has_edges e).0 (contains_of_member e m.edges inside)))).1

      edge_back : (e : Edge) → IsModelEdge g a n.states e → IsMember e m.edges
      edge_back e k =
          let low : e.source < length ls = omega (arith, slice_get_within n.states e.source k.from k.from_is, sizes) in
          member_of_contains e m.edges
          ((built.has_edges e).1 (contains_of_member e edges ((old.edges_are e).1 (low, k))))

-- ---- one after the other

module _ (g : Graph) (i : ℕ) where
  abbrev names_at : ℕ → List (List ℕ)
  names_at n = names_of g (node_at g n)

  -- the labels of one node more
  pub labels_more : (nodes : List ℕ) (k n : ℕ) (labels more whole : List (ℕ × List ℕ))
      → k < length nodes
      → n ≡ get_or nodes k 0
      → more ≡ whole ++ labelled i (flat_map names_at (take k nodes))
      → labels ≡ more ++ labelled i (names_of g (node_at g n))
      → labels ≡ whole ++ labelled i (flat_map names_at (take (k + 1) nodes))
  labels_more nodes k n labels more whole low n_is more_is is =
      let here : names_at n ≡ flat_map names_at (get_or nodes k 0 ∷ []) =
      ap names_at n_is ∙ sym (append-nil (names_at (get_or nodes k 0))) in
      let names : flat_map names_at (take k nodes) ++ names_at n ≡ flat_map names_at (take (k + 1) nodes) =
      ap (λ ns. flat_map names_at (take k nodes) ++ ns) here
      ∙ sym (flat_map-append names_at (take k nodes) (get_or nodes k 0 ∷ []))
      ∙ ap (flat_map names_at) (sym (take_more nodes k 0 low)) in
      is ∙ ap (λ ls. ls ++ labelled i (names_at n)) more_is
      ∙ append_assoc whole (labelled i (flat_map names_at (take k nodes))) (labelled i (names_at n))
      ∙ ap (λ ls. whole ++ ls)
      (sym (map-append (λ (y : List ℕ). (i, y)) (flat_map names_at (take k nodes)) (names_at n))
      ∙ ap (labelled i) names)

  -- the edge of one diamond more
  pub edges_more : (fs : List ℕ) (pairs : List (ℕ × ℕ)) (k d v : ℕ) (edges more whole : List Edge) (e : Edge)
      → k < length pairs
      → (d, v) ≡ get_or pairs k (0, 0)
      → e ≡ edge_to g fs i (d, v)
      → more ≡ whole ++ map (edge_to g fs i) (take k pairs)
      → edges ≡ more ++ e ∷ []
      → edges ≡ whole ++ map (edge_to g fs i) (take (k + 1) pairs)
  edges_more fs pairs k d v edges more whole e low pair e_is more_is is =
      let here : e ≡ edge_to g fs i (get_or pairs k (0, 0)) = e_is ∙ ap (edge_to g fs i) pair in
      let rest : map (edge_to g fs i) (take k pairs) ++ e ∷ [] ≡ map (edge_to g fs i) (take (k + 1) pairs) =
      ap (λ f. map (edge_to g fs i) (take k pairs) ++ f ∷ []) here
      ∙ sym (map-append (edge_to g fs i) (take k pairs) (get_or pairs k (0, 0) ∷ []))
      ∙ ap (map (edge_to g fs i)) (sym (take_more pairs k (0, 0) low)) in
      is ∙ ap (λ es. es ++ e ∷ []) more_is ∙ append_assoc whole (map (edge_to g fs i) (take k pairs)) (e ∷ [])
      ∙ ap (λ es. whole ++ es) rest

-- a pair of a list of pairs
pub record PairAt (ds vs : List ℕ) (k d v : ℕ) : Type 0 where
  pub low : k < length (zip ds vs)
  pub diamond_low : k < length ds
  pub diamond_is : get_or ds k 0 ≡ d
  pub pair_is : (d, v) ≡ get_or (zip ds vs) k (0, 0)

pub pair_at : (ds vs : List ℕ) (k d v : ℕ)
    → k < length ds
    → k < length vs
    → d ≡ get_or ds k 0
    → v ≡ get_or vs k 0
    → PairAt ds vs k d v
pair_at ds vs k d v d_low v_low d_is v_is = record {
  low = omega (arith, length-zip ds vs);
  diamond_low = d_low;
  diamond_is = sym d_is;
  pair_is = (λ j. (d_is j, v_is j)) ∙ sym (get_or-zip ds vs k (0, 0) d_low v_low);
}

-- what was found is at its place
pub some_found : (fs : List ℕ) (v : ℕ) (found : Option ℕ) → is_some found ≡ list_any (nat_eq v) fs → IsMember v fs
    → IsSome found
some_found fs v found is m = is ∙ known v fs m

-- the action of a diamond as it is read
pub action_read : (g : Graph) (x : Node) (a to : ℕ) (xs : List (List ℕ)) (r : List ℕ)
    → x ≡ node.Diamond a to
    → xs ≡ g.actions
    → a < length g.actions
    → r ≡ get_or xs a r
    → r ≡ action_of g x
action_read g x a to xs r x_is xs_is low is =
    is ∙ ap (λ ys. get_or ys a r) xs_is ∙ get_or_default g.actions a r [] low ∙ sym (ap (action_of g) x_is)

-- the label of a positive literal as it is read
pub label_read : (g : Graph) (i : ℕ) (x : Node) (p : ℕ) (xs : List (List ℕ)) (r name : List ℕ)
    (labels more : List (ℕ × List ℕ))
    → x ≡ node.Lit p true
    → xs ≡ g.props
    → p < length g.props
    → r ≡ get_or xs p r
    → name ≡ r
    → more ≡ labels ++ (i, name) ∷ []
    → more ≡ labels ++ labelled i (names_of g x)
label_read g i x p xs r name labels more x_is xs_is low is name_is more_is =
    let named : name ≡ prop_at g p =
    name_is ∙ is ∙ ap (λ ys. get_or ys p r) xs_is ∙ get_or_default g.props p r [] low in
    more_is ∙ ap (λ n. labels ++ (i, n) ∷ []) named ∙ sym (ap (λ y. labels ++ labelled i (names_of g y)) x_is)
