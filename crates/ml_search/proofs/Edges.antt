-- What few edges tell.
--
--   few_at_places  == where at each place the edges of its source and action end soon, edges are few
--   has_some       == each edge has the action of a diamond
--   only_one       == where the graph has one diamond at most, edges from one state lead to one state
use Rattle.std.proofs.Common.{ℕ, ◌≡◌, ◌+◌, ◌<◌, ◌≤◌, ◌==◌, ◌&&◌, ◌⊎◌, inl, inr, Bool, true, false, List, [], ◌∷◌, length, refl, sym, ap, subst, ◌∙◌, arith}
use Rattle.std.specs.List.{filter}
use Rattle.std.specs.Str.{bytes_eq}
use Rattle.std.specs.Cmp.{IsTotalOrder}
use Rattle.std.specs.Cmp.Lexicographic.{slice_cmp}
use Rattle.std.specs.List.Sorted.{IsStrictlySortedBy}
use Rattle.std.specs.Ordering.{is_gt, nat_cmp, ordering_then}
use Rattle.std.specs.declared.cmp.Ordering.{Ordering}
use Rattle.std.specs.declared.cmp.Ordering.TheVariants.{Less, Equal, Greater}
use Rattle.std.proofs.Math.Seq.{take-length}
use Rattle.std.proofs.lemmas.Bool.{cases_Bool, and_from, and_parts}
use Rattle.std.proofs.lemmas.Bool.Decides.{Decides-eqb}
use Rattle.std.proofs.lemmas.Cmp.{on_total, then_total, nat_cmp_total, nat_list_cmp_total}
use Rattle.std.proofs.lemmas.List.{length-map}
use Rattle.std.proofs.lemmas.Map.Lookups.{exact_bytes, exact_pairs, exact_unsigned}
use Rattle.std.proofs.lemmas.Slice.Eq.{bytes_eq-Decides}
use Rattle.ml_base.specs.declared.structure.Edge.{Edge}
use Rattle.ml_base.specs.EdgeOrder.{edge_cmp}
use Rattle.ml_base.specs.Structure.{Structure}
use Rattle.ml_lists.specs.Counting.{count}
use Rattle.ml_lists.specs.Member.{IsMember}
use Rattle.ml_lists.specs.Found.{Found}
use Rattle.ml_lists.proofs.Counting.{count_none}
use Rattle.ml_lists.proofs.Member.{member-filter, member-map}
use Rattle.ml_lists.proofs.Search.{search}
use Rattle.ml_graph.specs.CheckingGame.{targets}
use Rattle.ml_graph.specs.Diamonds.{HasOneDiamond}
use Rattle.ml_graph.specs.declared.node.Node.{Node}
use Rattle.ml_graph.specs.declared.node.Node.TheVariants as node
use Rattle.ml_graph.specs.Graph.{Graph, action_at, node_at, size}
use Rattle.ml_extract.specs.Extraction.{HasDiamond}
use Rattle.ml_search.specs.Found.{HasFewEdges, diamonds_with, has_diamond, is_diamond_with}
use Rattle.ml_search.specs.private.Checked.{EndsSoon, edge_at, no_edge}
use Rattle.ml_search.proofs.Passing.{count_one}
use Rattle.ml_search.proofs.Runs.{between, few_together}

-- ---- from the places of the edges to all states and actions

-- a source and an action, as edges are ordered by them first
abbrev Key : Type 0
Key = ℕ × List ℕ

abbrev key_of : Edge → Key
key_of e = (e.source, e.action)

abbrev key_cmp : Key → Key → Ordering
key_cmp x y = ordering_then (nat_cmp x.0 y.0) (slice_cmp nat_cmp x.1 y.1)

key_total : IsTotalOrder key_cmp
key_total = then_total (on_total (λ (x : Key). x.0) nat_cmp_total) (on_total (λ (x : Key). x.1) nat_list_cmp_total)

not_behind : (a b c : Ordering) → ordering_then a (ordering_then b c) ≡ Less → is_gt (ordering_then a b) ≡ false
not_behind Less b c less = refl
not_behind Equal Less c less = refl
not_behind Equal Equal c less = refl
not_behind Equal Greater c less = absurd (cc)
not_behind Greater b c less = absurd (cc)

key_first : (e f : Edge) → edge_cmp e f ≡ Less → is_gt (key_cmp (key_of e) (key_of f)) ≡ false
key_first e f = not_behind (nat_cmp e.source f.source) (slice_cmp nat_cmp e.action f.action) (nat_cmp e.target f.target)

abbrev leaves : ℕ → List ℕ → Edge → Bool
leaves s a e = (e.source == s) && bytes_eq e.action a

-- where at each place the edges of its source and action end soon, edges are few
pub few_at_places : (g : Graph) (m : Structure)
    → IsStrictlySortedBy edge_cmp m.edges
    → ((k : ℕ) → k < length m.edges → EndsSoon g m.edges k)
    → HasFewEdges g m
few_at_places g m ascends ends s a =
    let bound =
    few_together (leaves s a) m.edges no_edge (diamonds_with g a) together apart (length m.edges) (omega arith) in
    omega (
      arith,
      bound,
      ap (λ es. length (filter (leaves s a) es)) (take-length m.edges),
      length-map (filter (leaves s a) m.edges) (λ (e : Edge). e.target),
    )
  where
    to_key : (e : Edge) → leaves s a e ≡ true → key_of e ≡ (s, a)
    to_key e passes =
        let both = and_parts (e.source == s) (bytes_eq e.action a) passes in
        let source : e.source ≡ s = (Decides-eqb e.source s).0 both.0 in
        let action : e.action ≡ a = (bytes_eq-Decides e.action a).0 both.1 in
        λ i. (source i, action i)

    from_key : (e : Edge) → key_of e ≡ (s, a) → leaves s a e ≡ true
    from_key e is =
        and_from (e.source == s) (bytes_eq e.action a) ((Decides-eqb e.source s).1 (ap (λ (x : Key). x.0) is))
        ((bytes_eq-Decides e.action a).1 (ap (λ (x : Key). x.1) is))

    alike : (i k j : ℕ) → i ≤ k → k ≤ j → j < length m.edges → leaves s a (edge_at m.edges i) ≡ true
        → leaves s a (edge_at m.edges j) ≡ true
        → key_of (edge_at m.edges i) ≡ key_of (edge_at m.edges k)
    alike i k j above below low first last =
        between key_cmp key_total (exact_pairs nat_cmp (slice_cmp nat_cmp) exact_unsigned exact_bytes) key_of edge_cmp
        key_first m.edges ascends no_edge i k j above below low
        (to_key (edge_at m.edges i) first ∙ sym (to_key (edge_at m.edges j) last))

    together : (i k j : ℕ) → i ≤ k → k ≤ j → j < length m.edges → leaves s a (edge_at m.edges i) ≡ true
        → leaves s a (edge_at m.edges j) ≡ true
        → leaves s a (edge_at m.edges k) ≡ true
    together i k j above below low first last =
        from_key (edge_at m.edges k)
        (sym (alike i k j above below low first last) ∙ to_key (edge_at m.edges i) first)

    apart : (i : ℕ) → i + diamonds_with g a < length m.edges → leaves s a (edge_at m.edges i) ≡ true
        → leaves s a (edge_at m.edges (i + diamonds_with g a)) ≡ true
        → ⊥
    apart i low first last =
        let e = ends i (omega (arith, low)) in
        let action : (edge_at m.edges i).action ≡ a =
        ap (λ (x : Key). x.1) (to_key (edge_at m.edges i) first) in
        let few : e.many ≤ diamonds_with g a = subst (λ (b : List ℕ). e.many ≤ diamonds_with g b) action e.few in
        let same = alike i (i + e.many) (i + diamonds_with g a) (omega arith) (omega (arith, few)) low first last in
        e.ends (omega (arith, low, few))
        (record { source = ap (λ (x : Key). x.0) same; action = ap (λ (x : Key). x.1) same })

-- ---- what they tell

-- an edge is one of those of its source and its action
stands : (m : Structure) (e : Edge) → IsMember e m.edges → IsMember e.target (targets m e.source e.action)
stands m e inside =
    let source : (e.source == e.source) ≡ true = (Decides-eqb e.source e.source).1 refl in
    let action : bytes_eq e.action e.action ≡ true = (bytes_eq-Decides e.action e.action).1 refl in
    member-map (λ (x : Edge). x.target) e (filter (λ (x : Edge). (x.source == e.source) && bytes_eq x.action e.action) m.edges)
    (member-filter (λ (x : Edge). (x.source == e.source) && bytes_eq x.action e.action) e m.edges inside
    (subst (λ b. (b && bytes_eq e.action e.action) ≡ true) (sym source) action))

not_empty : {X : Type 0} (x : X) (xs : List X) → IsMember x xs → 0 < length xs
not_empty x [] m = absurd m
not_empty x (y ∷ ys) m = omega arith

record IsDiamondWith (g : Graph) (name : List ℕ) (x : Node) : Type 0 where
  action : ℕ
  child : ℕ
  is : x ≡ node.Diamond action child
  named : action_at g action ≡ name

diamond_with : (g : Graph) (name : List ℕ) (x : Node) → is_diamond_with g name x ≡ true → IsDiamondWith g name x
diamond_with g name node.True passes = cc
diamond_with g name node.False passes = cc
diamond_with g name (node.Lit p positive) passes = cc
diamond_with g name (node.And l r) passes = cc
diamond_with g name (node.Or l r) passes = cc
diamond_with g name (node.Square k to) passes = cc
diamond_with g name (node.Diamond k to) passes =
    record { action = k; child = to; is = refl; named = (bytes_eq-Decides (action_at g k) name).0 passes }

pub has_some : (g : Graph) (m : Structure) → HasFewEdges g m → (e : Edge) → IsMember e m.edges → HasDiamond g e
has_some g m few e inside =
    by_search
    (search (λ k. has_diamond g e.action k ≡ true) (λ k. has_diamond g e.action k ≡ false)
    (λ k. cases_Bool (has_diamond g e.action k)) (size g))
  where
    by_search : Found (λ k. has_diamond g e.action k ≡ true) (size g)
        ⊎ ((k : ℕ) → k < size g → has_diamond g e.action k ≡ false)
        → HasDiamond g e
    by_search (inl found) =
        let d = diamond_with g e.action (node_at g found.place) found.holds in
        record {
          diamond = found.place;
          is_node = found.below;
          action = d.action;
          child = d.child;
          is_diamond = d.is;
          action_is = sym d.named;
        }
    by_search (inr none) =
        absurd
        (omega (arith, few e.source e.action, count_none (has_diamond g e.action) (size g) none, not_empty e.target (targets m e.source e.action) (stands m e inside)))

same_member : {X : Type 0} (x y : X) (xs : List X) → length xs ≤ 1 → IsMember x xs → IsMember y xs → x ≡ y
same_member x y [] short m n = absurd m
same_member x y (z ∷ []) short (inl e) (inl f) = e ∙ sym f
same_member x y (z ∷ []) short (inl e) (inr n) = absurd n
same_member x y (z ∷ []) short (inr m) n = absurd m
same_member x y (z ∷ (w ∷ zs)) short m n = absurd (omega (arith, short))

pub only_one : (g : Graph) (m : Structure) → HasFewEdges g m → HasOneDiamond g → (e f : Edge)
    → IsMember e m.edges
    → IsMember f m.edges
    → e.source ≡ f.source
    → e.target ≡ f.target
only_one g m few one e f inside also source =
    let d = has_some g m few e inside in
    let k = has_some g m few f also in
    let same : d.diamond ≡ k.diamond =
    one d.diamond k.diamond d.action k.action d.child k.child d.is_node k.is_node d.is_diamond k.is_diamond in
    let nodes : node.Diamond d.action d.child ≡ node.Diamond k.action k.child =
    sym d.is_diamond ∙ ap (node_at g) same ∙ k.is_diamond in
    let places : d.action ≡ k.action = cc in
    let action : e.action ≡ f.action = d.action_is ∙ ap (action_at g) places ∙ sym k.action_is in
    let low : count (has_diamond g e.action) (size g) ≤ 1 =
    count_one (has_diamond g e.action) (size g) (λ i j here there passes also_passes.
    let x = diamond_with g e.action (node_at g i) passes in
    let y = diamond_with g e.action (node_at g j) also_passes in
    one i j x.action y.action x.child y.child here there x.is y.is) in
    let short : length (targets m e.source e.action) ≤ 1 = omega (arith, low, few e.source e.action) in
    let other : IsMember f.target (targets m e.source e.action) =
    subst (λ (b : List ℕ). IsMember f.target (targets m e.source b)) (sym action)
    (subst (λ (t : ℕ). IsMember f.target (targets m t f.action)) (sym source) (stands m f also)) in
    same_member e.target f.target (targets m e.source e.action) short (stands m e inside) other
