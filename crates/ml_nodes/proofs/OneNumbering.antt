-- Two breadth-first numberings of one closure are the same, so a closure has one graph at most.
--
--   Paired R xs ys    == two lists whose entries are paired by R, one by one
--   same_next         == numberings that agree below n agree at n
--   one_graph         == the law
use Rattle.std.proofs.Common.{ℕ, zero, suc, ◌≡◌, ◌+◌, ◌<◌, ◌≤◌, ◌⊎◌, inl, inr, arith, true, false, List, [], ◌∷◌, ◌++◌, length, map, get_or, Some, sym, ap, subst, ◌∙◌, ⊎_elim}
use Rattle.std.specs.List.{flat_map, range_with_len, slice_get}
use Rattle.std.proofs.lemmas.Bool.{cases_eq, cases_lt}
use Rattle.std.proofs.lemmas.List.{get_or-map, length-map}
use Rattle.std.proofs.lemmas.List.FromFn.{get_or-range_with_len, length-range_with_len}
use Rattle.std.proofs.lemmas.Option.{slice_get_within, slice_get-get_or}
use Rattle.ml_lists.specs.Member.{IsMember}
use Rattle.ml_lists.proofs.Member.{member-append, member-place, place-member}
use Rattle.ml_graph.specs.Graph.{Graph, size, node_at}
use Rattle.ml_graph.specs.declared.node.Node.{Node}
use Rattle.ml_graph.specs.declared.node.Node.TheVariants as node
use Rattle.ml_nodes.specs.AlikeNodes.{AreAlike, AreAlikeNodes}
use Rattle.ml_nodes.specs.ClosureGraph.{Form, Forms, Constant, Literal, And, Or, Diamond, Square, IsGraphFrom, IsNumberedBy, HasForm, row_of}
use Rattle.ml_nodes.proofs.FirstOccurrences.{Orderly, orderly, orderly_front, rows_before, all_rows, row_member}

abbrev pub Paired : (ℕ → ℕ → Type 0) → List ℕ → List ℕ → Type 0
Paired R [] [] = Unit {0}
Paired R [] (y ∷ ys) = ⊥
Paired R (x ∷ xs) [] = ⊥
Paired R (x ∷ xs) (y ∷ ys) = R x y × Paired R xs ys

paired_append : (R : ℕ → ℕ → Type 0) (xs ys us vs : List ℕ)
    → Paired R xs ys
    → Paired R us vs
    → Paired R (xs ++ us) (ys ++ vs)
paired_append R [] [] us vs a b = b
paired_append R [] (y ∷ ys) us vs none b = absurd none
paired_append R (x ∷ xs) [] us vs none b = absurd none
paired_append R (x ∷ xs) (y ∷ ys) us vs a b = (a.0, paired_append R xs ys us vs a.1 b)

paired_rows : (R : ℕ → ℕ → Type 0) (n : ℕ) (rows others : List (List ℕ))
    → n ≤ length rows
    → n ≤ length others
    → ((j : ℕ) → j < n → Paired R (get_or rows j []) (get_or others j []))
    → Paired R (rows_before n rows) (rows_before n others)
paired_rows R zero rows others a b each = tt
paired_rows R (suc n) [] others a b each = absurd (omega (arith, a))
paired_rows R (suc n) (r ∷ rows) [] a b each = absurd (omega (arith, b))
paired_rows R (suc n) (r ∷ rows) (o ∷ others) a b each =
    paired_append R r o (rows_before n rows) (rows_before n others) (each 0 (omega arith))
    (paired_rows R n rows others (omega (arith, a)) (omega (arith, b)) (λ j low. each (suc j) (omega (arith, low))))

zero_in_front : (n : ℕ) → 0 + n ≡ n
zero_in_front n = omega arith

-- ---- two numberings

module _ {P : Type 0} (ps qs : List P)
    (once_p : (i j : ℕ) (q : P) → slice_get ps i ≡ Some q → slice_get ps j ≡ Some q → i ≡ j)
    (once_q : (i j : ℕ) (q : P) → slice_get qs i ≡ Some q → slice_get qs j ≡ Some q → i ≡ j) where
  -- the same node, by its two numbers
  pub record SameNode (x y : ℕ) : Type 0 where
    pub node : P
    pub first : slice_get ps x ≡ Some node
    pub second : slice_get qs y ≡ Some node

  abbrev Agree : ℕ → Type 0
  Agree n = (k : ℕ) → k < n → slice_get ps k ≡ slice_get qs k

  -- below n, two numbers of one node are one
  same_below : (n : ℕ) → Agree n → (x y : ℕ) → x < n → SameNode x y → y ≡ x
  same_below n agree x y low s = once_q y x s.node s.second (sym (agree x low) ∙ s.first)

  same_above : (n : ℕ) → Agree n → (x y : ℕ) → y < n → SameNode x y → x ≡ y
  same_above n agree x y low s = once_p x y s.node s.first (agree y low ∙ s.second)

  -- where the number n comes up in the one list, its node has that number in the other one
  walk_to : (n : ℕ) → Agree n → (A xs ys : List ℕ)
      → ((a : ℕ) → IsMember a A → a < n)
      → Orderly A xs
      → Orderly A ys
      → Paired SameNode xs ys
      → IsMember n xs
      → SameNode n n
  walk_to n agree A [] ys below up also pairs none = absurd none
  walk_to n agree A (x ∷ xs) [] below up also none m = absurd none
  walk_to n agree A (x ∷ xs) (y ∷ ys) below up also pairs m =
      ⊎_elim
      (λ (low : x < n).
      let same = same_below n agree x y low pairs.0 in
      walk_to n agree (A ++ x ∷ []) xs ys (lower low) up.1
      (subst (λ z. Orderly (A ++ z ∷ []) ys) same also.1) pairs.1 (later low m))
      (λ (high : n ≤ x).
      ⊎_elim
      (λ (is : x ≡ n). at_n is)
      (λ (other : x ≡ n → ⊥).
      let earlier = up.0 n (omega (arith, high, other)) in
      let wrong = below n earlier in
      absurd (omega (arith, wrong)))
      (cases_eq x n))
      (cases_lt x n)
    where
      lower : x < n → (a : ℕ) → IsMember a (A ++ x ∷ []) → a < n
      lower low a i =
          ⊎_elim (λ (j : IsMember a A). below a j) (λ (j : IsMember a (x ∷ [])). last low j) (member-append a A (x ∷ []) i)
        where
          last : x < n → IsMember a (x ∷ []) → a < n
          last low (inl e) = omega (arith, e, low)
          last low (inr none) = absurd none

      later : x < n → (n ≡ x) ⊎ IsMember n xs → IsMember n xs
      later low (inl e) = absurd (omega (arith, e, low))
      later low (inr i) = i

      at_n : x ≡ n → SameNode n n
      at_n is =
          let s : SameNode n y = subst (λ z. SameNode z y) is pairs.0 in
          ⊎_elim
          (λ (low : y < n). let same = same_above n agree n y low s in absurd (omega (arith, same, low)))
          (λ (high : n ≤ y).
          ⊎_elim
          (λ (same : y ≡ n). subst (SameNode n) same s)
          (λ (other : y ≡ n → ⊥).
          let earlier = also.0 n (omega (arith, high, other)) in
          let wrong = below n earlier in
          absurd (omega (arith, wrong)))
          (cases_eq y n))
          (cases_lt y n)

-- ---- two graphs

module _ {P : Type 0} (F : Forms P) (root : P) (g h : Graph) (ps qs : List P) (N : IsNumberedBy F g root ps)
    (M : IsNumberedBy F h root qs) where
  abbrev Same : ℕ → ℕ → Type 0
  Same = SameNode ps qs (N.is_closure).once (M.is_closure).once

  same_node : (x y : ℕ) (q : P) → slice_get ps x ≡ Some q → slice_get qs y ≡ Some q → Same x y
  same_node x y q a b = record { node = q; first = a; second = b }

  -- the rows of one form
  rows_paired : (v w : Node) (f : Form P) → HasForm g ps v f → HasForm h qs w f → Paired Same (row_of v) (row_of w)
  rows_paired v w (Constant true) a b =
      subst (λ u. Paired Same (row_of u) (row_of w)) (sym a) (subst (λ u. Paired Same [] (row_of u)) (sym b) tt)
  rows_paired v w (Constant false) a b =
      subst (λ u. Paired Same (row_of u) (row_of w)) (sym a) (subst (λ u. Paired Same [] (row_of u)) (sym b) tt)
  rows_paired v w (Literal name sign) a b =
      subst (λ u. Paired Same (row_of u) (row_of w)) (sym a.1) (subst (λ u. Paired Same [] (row_of u)) (sym b.1) tt)
  rows_paired v w (And l r) a b =
      subst (λ u. Paired Same (row_of u) (row_of w)) (sym a.4)
      (subst (λ u. Paired Same (a.0 ∷ a.1 ∷ []) (row_of u)) (sym b.4)
      (same_node a.0 b.0 l a.2 b.2, (same_node a.1 b.1 r a.3 b.3, tt)))
  rows_paired v w (Or l r) a b =
      subst (λ u. Paired Same (row_of u) (row_of w)) (sym a.4)
      (subst (λ u. Paired Same (a.0 ∷ a.1 ∷ []) (row_of u)) (sym b.4)
      (same_node a.0 b.0 l a.2 b.2, (same_node a.1 b.1 r a.3 b.3, tt)))
  rows_paired v w (Diamond q) a b =
      subst (λ u. Paired Same (row_of u) (row_of w)) (sym a.3)
      (subst (λ u. Paired Same (a.1 ∷ []) (row_of u)) (sym b.3) (same_node a.1 b.1 q a.2 b.2, tt))
  rows_paired v w (Square q) a b =
      subst (λ u. Paired Same (row_of u) (row_of w)) (sym a.3)
      (subst (λ u. Paired Same (a.1 ∷ []) (row_of u)) (sym b.3) (same_node a.1 b.1 q a.2 b.2, tt))

  place_there : (k : ℕ) → k < size g → slice_get ps k ≡ Some (get_or ps k root)
  place_there k low = let same = N.one_each in slice_get-get_or ps k root (omega (arith, same, low))

  abbrev AgreeTo : ℕ → Type 0
  AgreeTo n = (k : ℕ) → k < n → slice_get ps k ≡ slice_get qs k

  abbrev rows_g : List (List ℕ)
  rows_g = map row_of g.nodes

  abbrev rows_h : List (List ℕ)
  rows_h = map row_of h.nodes

  row_pair : (n : ℕ)
      → n ≤ size g
      → n ≤ size h
      → AgreeTo n
      → (j : ℕ)
      → j < n
      → Paired Same (get_or rows_g j []) (get_or rows_h j [])
  row_pair n a b agree j low =
      let q = get_or ps j root in
      let here = place_there j (omega (arith, low, a)) in
      let there : slice_get qs j ≡ Some q = sym (agree j low) ∙ here in
      let pair = rows_paired (node_at g j) (node_at h j) (F.form_of q) (N.has_forms j q here) (M.has_forms j q there) in
      subst (λ r. Paired Same r (get_or rows_h j []))
      (sym (get_or-map row_of g.nodes j node.True [] (omega (arith, low, a))))
      (subst (λ r. Paired Same (row_of (node_at g j)) r)
      (sym (get_or-map row_of h.nodes j node.True [] (omega (arith, low, b)))) pair)

  at_root : Same 0 0
  at_root = record {
    node = root;
    first = ap (slice_get ps) (sym N.is_first) ∙ N.root_is;
    second = ap (slice_get qs) (sym M.is_first) ∙ M.root_is;
  }

  same_at : (n : ℕ) → n < size g → n < size h → AgreeTo n → Same n n
  same_at zero a b agree = at_root
  same_at (suc k) a b agree = from ((N.breadth_first).from_earlier n (omega arith) (omega (arith, length_g, a)))
    where
      n : ℕ
      n = suc k

      length_g : length (range_with_len 0 (size g)) ≡ size g
      length_g = length-range_with_len 0 (size g)

      front_g : (rest : List ℕ) × (flat_map (λ r. r) rows_g ≡ rows_before (suc k) rows_g ++ rest)
      front_g = all_rows (suc k) rows_g

      front_h : (rest : List ℕ) × (flat_map (λ r. r) rows_h ≡ rows_before (suc k) rows_h ++ rest)
      front_h = all_rows (suc k) rows_h

      order_g : Orderly [] (0 ∷ rows_before (suc k) rows_g)
      order_g =
          orderly_front [] (0 ∷ rows_before (suc k) rows_g) front_g.0
          (subst (λ l. Orderly [] (0 ∷ l)) front_g.1
          (orderly (size g) [] (0 ∷ flat_map (λ r. r) rows_g) (N.breadth_first).in_order))

      order_h : Orderly [] (0 ∷ rows_before (suc k) rows_h)
      order_h =
          orderly_front [] (0 ∷ rows_before (suc k) rows_h) front_h.0
          (subst (λ l. Orderly [] (0 ∷ l)) front_h.1
          (orderly (size h) [] (0 ∷ flat_map (λ r. r) rows_h) (M.breadth_first).in_order))

      from : (j : ℕ) × (j < suc k) × IsMember (get_or (range_with_len 0 (size g)) (suc k) 0) (get_or rows_g j [])
          → Same (suc k) (suc k)
      from (j, low, m) =
          let is : get_or (range_with_len 0 (size g)) (suc k) 0 ≡ suc k =
          get_or-range_with_len 0 (size g) (suc k) 0 a ∙ zero_in_front (suc k) in
          walk_to ps qs (N.is_closure).once (M.is_closure).once (suc k) agree [] (0 ∷ rows_before (suc k) rows_g)
          (0 ∷ rows_before (suc k) rows_h) (λ x none. absurd none) order_g order_h (
            at_root,
            paired_rows Same (suc k) rows_g rows_h
                (let l = length-map g.nodes row_of in omega (arith, l, a))
                (let l = length-map h.nodes row_of in omega (arith, l, b))
                (row_pair (suc k) (omega (arith, a)) (omega (arith, b)) agree),
          )
          (inr (row_member (suc k) rows_g j (suc k) low (subst (λ x. IsMember x (get_or rows_g j [])) is m)))

  agree_to : (n : ℕ) → n ≤ size g → n ≤ size h → AgreeTo n
  agree_to zero a b k low = absurd (omega (arith, low))
  agree_to (suc n) a b k low =
      let before = agree_to n (omega (arith, a)) (omega (arith, b)) in
      ⊎_elim (λ (last : k ≡ n).
      let s = same_at n (omega (arith, a)) (omega (arith, b)) before in
      subst (λ i. slice_get ps i ≡ slice_get qs i) (sym last) (s.first ∙ sym s.second))
      (λ (other : k ≡ n → ⊥). before k (omega (arith, low, other))) (cases_eq k n)

  -- ---- as many

  not_fewer : size g < size h → ⊥
  not_fewer less =
      let q = get_or qs (size g) root in
      let all = M.one_each in
      let there : slice_get qs (size g) ≡ Some q = slice_get-get_or qs (size g) root (omega (arith, all, less)) in
      let in_h : IsMember q qs = place-member qs (size g) root (omega (arith, all, less)) in
      let in_g : IsMember q ps = ((N.is_closure).are_reached q).1 (((M.is_closure).are_reached q).0 in_h) in
      let seat = member-place q ps in_g in
      let same = N.one_each in
      let low = seat.below in
      let k_low : seat.place < size g = omega (arith, low, same) in
      let here : slice_get ps seat.place ≡ Some q =
      place_there seat.place k_low ∙ ap Some (seat.holds root) in
      let agree = agree_to (size g) (omega arith) (omega (arith, less)) seat.place k_low in
      let wrong = (M.is_closure).once seat.place (size g) q (sym agree ∙ here) there in
      omega (arith, wrong, k_low)

-- ---- alike

module _ {P : Type 0} (g h : Graph) (ps : List P)
    (once : (i j : ℕ) (q : P) → slice_get ps i ≡ Some q → slice_get ps j ≡ Some q → i ≡ j) where
  alike : (v w : Node) (f : Form P) → HasForm g ps v f → HasForm h ps w f → AreAlikeNodes g h v w
  alike v w (Constant true) a b = subst (λ u. AreAlikeNodes g h u w) (sym a) b
  alike v w (Constant false) a b = subst (λ u. AreAlikeNodes g h u w) (sym a) b
  alike v w (Literal name sign) a b = subst (λ u. AreAlikeNodes g h u w) (sym a.1) (b.0, b.1, b.2 ∙ sym a.2)
  alike v w (And l r) a b =
      subst (λ u. AreAlikeNodes g h u w) (sym a.4)
      (b.4 ∙ ap (λ c. node.And c b.1) (once b.0 a.0 l b.2 a.2) ∙ ap (node.And a.0) (once b.1 a.1 r b.3 a.3))
  alike v w (Or l r) a b =
      subst (λ u. AreAlikeNodes g h u w) (sym a.4)
      (b.4 ∙ ap (λ c. node.Or c b.1) (once b.0 a.0 l b.2 a.2) ∙ ap (node.Or a.0) (once b.1 a.1 r b.3 a.3))
  alike v w (Diamond q) a b =
      subst (λ u. AreAlikeNodes g h u w) (sym a.3)
      (b.0, b.3 ∙ ap (node.Diamond b.0) (once b.1 a.1 q b.2 a.2), b.4 ∙ sym a.4)
  alike v w (Square q) a b =
      subst (λ u. AreAlikeNodes g h u w) (sym a.3)
      (b.0, b.3 ∙ ap (node.Square b.0) (once b.1 a.1 q b.2 a.2), b.4 ∙ sym a.4)

-- the same numbers in both lists
over : {P : Type 0} (h : Graph) (ps qs : List P) (w : Node) (f : Form P)
    → ((k : ℕ) (q : P) → slice_get qs k ≡ Some q → slice_get ps k ≡ Some q)
    → HasForm h qs w f
    → HasForm h ps w f
over h ps qs w (Constant c) same b = b
over h ps qs w (Literal name sign) same b = b
over h ps qs w (And l r) same b = (b.0, b.1, same b.0 l b.2, same b.1 r b.3, b.4)
over h ps qs w (Or l r) same b = (b.0, b.1, same b.0 l b.2, same b.1 r b.3, b.4)
over h ps qs w (Diamond q) same b = (b.0, b.1, same b.1 q b.2, b.3, b.4)
over h ps qs w (Square q) same b = (b.0, b.1, same b.1 q b.2, b.3, b.4)

pub one_graph : {P : Type 0} (F : Forms P) (root : P) (g h : Graph) → IsGraphFrom F g root → IsGraphFrom F h root → AreAlike g h
one_graph {P = P} F root g h is_g is_h = record {
  sizes = sizes;
  roots = N.is_first ∙ sym M.is_first;
  priorities = λ n low. N.has_priorities n (at n) (here n low) ∙ sym (M.has_priorities n (at n) (there n low));
  nodes = λ n low.
      alike g h ps (N.is_closure).once (node_at g n) (node_at h n) (F.form_of (at n)) (N.has_forms n (at n) (here n low))
      (over h ps qs (node_at h n) (F.form_of (at n)) back_to (M.has_forms n (at n) (there n low)));
}
  where
    ps : List P
    ps = (is_g.is_numbered).0

    qs : List P
    qs = (is_h.is_numbered).0

    N : IsNumberedBy F g root (is_g.is_numbered).0
    N = (is_g.is_numbered).1

    M : IsNumberedBy F h root (is_h.is_numbered).0
    M = (is_h.is_numbered).1

    sizes : size g ≡ size h
    sizes =
        ⊎_elim (λ (low : size g < size h). absurd (not_fewer F root g h ps qs N M low))
        (λ (high : size h ≤ size g).
        ⊎_elim (λ (low : size h < size g). absurd (not_fewer F root h g qs ps M N low))
        (λ (same : size g ≤ size h). omega (arith, high, same)) (cases_lt (size h) (size g)))
        (cases_lt (size g) (size h))

    at : ℕ → P
    at n = get_or ps n root

    here : (n : ℕ) → n < size g → slice_get ps n ≡ Some (at n)
    here n low = place_there F root g h ps qs N M n low

    agree : (n : ℕ) → n < size g → slice_get ps n ≡ slice_get qs n
    agree n low = agree_to F root g h ps qs N M (size g) (omega arith) (omega (arith, sizes)) n low

    there : (n : ℕ) → n < size g → slice_get qs n ≡ Some (at n)
    there n low = sym (agree n low) ∙ here n low

    back_to : (k : ℕ) (q : P) → slice_get qs k ≡ Some q → slice_get ps k ≡ Some q
    back_to k q e =
        let within = slice_get_within qs k q e in
        let all = M.one_each in
        agree k (omega (arith, within, all, sizes)) ∙ e
