-- Graphs of closures that are worked out by hand: what is to be seen of each value of a list.
--
-- Each value has a rank, its number, so that none stands twice and its children are found.
--
--   EachAt P a xs            == P holds of each entry of xs and its place, where the first place is a
--   Each P xs                == P holds of each entry of xs
--   IsListed g root rest rank == the values of the graph are the root and these, by their ranks
--   listed_graph             == then it is the graph of the closure
use Rattle.std.proofs.Common.{ℕ, zero, suc, ◌≡◌, ◌+◌, ◌<◌, inl, inr, arith, List, [], ◌∷◌, length, map, get_or, slice_get, Some, refl, sym, ap, ◌∙◌, subst}
use Rattle.std.specs.List.{flat_map, range_with_len}
use Rattle.std.proofs.lemmas.List.FromFn.{get_or-range_with_len, length-range_with_len}
use Rattle.std.proofs.lemmas.List.{length-map}
use Rattle.std.proofs.lemmas.Option.{same_Some}
use Rattle.ml_lists.specs.BreadthFirst.{each_once}
use Rattle.ml_lists.specs.Member.{IsMember}
use Rattle.ml_lists.proofs.Entries.{some_entry}
use Rattle.ml_lists.proofs.Member.{member_of_get}
use Rattle.ml_graph.specs.Graph.{Graph, IsGraph, node_at, priority_at, size}
use Rattle.ml_nodes.specs.ClosureGraph.{Forms, HasForm, IsGraphFrom, IsReached, at_root, behind, children, row_of}

-- ---- lists

infixr 4 ◌&◌
-- P holds of each entry and its place, where the first place is a: one proof after the other, and `done`
pub data EachAt {X : Type 0} (P : ℕ → X → Type 0) : ℕ → List X → Type 0 where
  done : {a : ℕ} → EachAt P a []
  ◌&◌ : {a : ℕ} {x : X} {xs : List X} → P a x → EachAt P (suc a) xs → EachAt P a (x ∷ xs)

-- and where the place doesn't matter
abbrev pub Each : {X : Type 0} → (X → Type 0) → List X → Type 0
Each P xs = EachAt (λ _ x. P x) 0 xs

each_at : {X : Type 0} (P : ℕ → X → Type 0) (a : ℕ) (xs : List X)
    → EachAt P a xs
    → (n : ℕ) (x : X)
    → slice_get xs n ≡ Some x
    → P (a + n) x
each_at P a [] each n x e = absurd (cc)
each_at P a (y ∷ ys) (here & each) zero x e =
    let same : a ≡ a + 0 = omega arith in subst (λ k. P k x) same (subst (P a) (same_Some y x e) here)
each_at P a (y ∷ ys) (here & each) (suc n) x e =
    let same : suc a + n ≡ a + suc n = omega arith in
    subst (λ k. P k x) same (each_at P (suc a) ys each n x e)

of_each : {X : Type 0} (P : X → Type 0) (a : ℕ) (xs : List X)
    → EachAt (λ _ x. P x) a xs
    → (x : X)
    → IsMember x xs
    → P x
of_each P a [] each x none = absurd none
of_each P a (y ∷ ys) (here & each) x (inl is) = subst P (sym is) here
of_each P a (y ∷ ys) (here & each) x (inr m) = of_each P (suc a) ys each x m

same_head : (x y : ℕ) (xs ys : List ℕ) → x ∷ xs ≡ y ∷ ys → (x ≡ y) × (xs ≡ ys)
same_head x y xs ys e = (let heads : x ≡ y = cc in heads, let tails : xs ≡ ys = cc in tails)

-- ranks are places
ranked : {X : Type 0} (rank : X → ℕ) (a : ℕ) (xs : List X)
    → map rank xs ≡ range_with_len a (length xs)
    → (n : ℕ) (x : X)
    → slice_get xs n ≡ Some x
    → rank x ≡ a + n
ranked rank a [] e n x at = absurd (cc)
ranked rank a (y ∷ ys) e zero x at =
    let heads = (same_head (rank y) a (map rank ys) (range_with_len (a + 1) (length ys)) e).0 in
    let is = ap rank (same_Some y x at) in
    omega (arith, heads, is)
ranked rank a (y ∷ ys) e (suc n) x at =
    let tails = (same_head (rank y) a (map rank ys) (range_with_len (a + 1) (length ys)) e).1 in
    let is = ranked rank (a + 1) ys tails n x at in
    omega (arith, is)

-- ---- graphs

module _ {P : Type 0} (F : Forms P) (g : Graph) (root : P) (rest : List P) (rank : P → ℕ) where
  abbrev places : List P
  places = root ∷ rest

  abbrev rows : List (List ℕ)
  rows = map row_of g.nodes

  -- the node number n is of the form of the value, and has its priority
  abbrev IsAt : ℕ → P → Type 0
  IsAt n p = HasForm g places (node_at g n) (F.form_of p) × (priority_at g n ≡ F.priority_of p)

  pub record IsListed : Type 0 where
    pub is_graph : IsGraph g
    pub begins : g.root ≡ 0
    pub one_each : size g ≡ length (root ∷ rest)
    pub ranks : map rank (root ∷ rest) ≡ range_with_len 0 (length (root ∷ rest))
    -- each child stands in the list, at its rank
    pub children_stand : Each
        (λ p. Each (λ q. slice_get (root ∷ rest) (rank q) ≡ Some q) (children (F.form_of p)))
        (root ∷ rest)
    pub reached : Each (IsReached F root) (root ∷ rest)
    pub forms : EachAt
        (λ n p. HasForm g (root ∷ rest) (node_at g n) (F.form_of p) × (priority_at g n ≡ F.priority_of p))
        0 (root ∷ rest)
    pub in_order : range_with_len 0 (size g) ≡ each_once (0 ∷ flat_map (λ (row : List ℕ). row) (map row_of g.nodes))
    pub earlier : EachAt (λ k p. (j : ℕ) × (j < k) × IsMember k (get_or (map row_of g.nodes) j [])) 1 rest

  module _ (L : IsListed) where
    once : (i j : ℕ) (p : P) → slice_get places i ≡ Some p → slice_get places j ≡ Some p → i ≡ j
    once i j p at_i at_j =
        let first = ranked rank 0 places L.ranks i p at_i in
        let second = ranked rank 0 places L.ranks j p at_j in
        omega (arith, first, second)

    inside : (p : P) → IsReached F root p → IsMember p places
    inside _ at_root = inl refl
    inside p (behind q _ reached child) =
        let stand =
        of_each (λ q. Each (λ r. slice_get places (rank r) ≡ Some r) (children (F.form_of q))) 0 places
        L.children_stand q (inside q reached) in
        member_of_get places (rank p) p
        (of_each (λ r. slice_get places (rank r) ≡ Some r) 0 (children (F.form_of q)) stand p child)

    at : (n : ℕ) (p : P) → slice_get places n ≡ Some p → IsAt n p
    at n p e =
        let same : 0 + n ≡ n = omega arith in subst (λ k. IsAt k p) same (each_at IsAt 0 places L.forms n p e)

    from_earlier : (k : ℕ) → 0 < k → k < length (range_with_len 0 (size g))
        → (j : ℕ) × (j < k) × IsMember (get_or (range_with_len 0 (size g)) k 0) (get_or rows j [])
    from_earlier zero some low = absurd (omega (arith, some))
    from_earlier (suc k) some low =
        let long = length-range_with_len 0 (size g) in
        let many = L.one_each in
        let entry = some_entry rest k (omega (arith, low, long, many)) in
        let e = each_at (λ k p. (j : ℕ) × (j < k) × IsMember k (get_or rows j [])) 1 rest L.earlier k entry.0 entry.1 in
        let is : get_or (range_with_len 0 (size g)) (suc k) 0 ≡ 1 + k =
        (let number = get_or-range_with_len 0 (size g) (suc k) 0 (omega (arith, low, long)) in omega (arith, number)) in
        let below = e.1 in (
          e.0,
          omega (arith, below),
          subst (λ n. IsMember n (get_or rows e.0 [])) (sym is) e.2,
        )

    pub listed_graph : IsGraphFrom F g root
    listed_graph = record {
      is_graph = L.is_graph;
      is_numbered = (
        places,
        record {
          is_closure = record {
            once = once;
            are_reached = λ p. (of_each (IsReached F root) 0 places L.reached p, inside p);
          };
          one_each = L.one_each;
          has_forms = λ n p e. (at n p e).0;
          has_priorities = λ n p e. (at n p e).1;
          root_is = ap (slice_get places) L.begins;
          is_first = L.begins;
          breadth_first = record {
            a_row_each = length-map g.nodes row_of ∙ sym (length-range_with_len 0 (size g));
            in_order = L.in_order;
            from_earlier = from_earlier;
          };
        },
      );
    }
