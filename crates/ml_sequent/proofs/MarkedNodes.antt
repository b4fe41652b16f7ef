-- The nodes that a search marked, where it went on with rank 0 throughout.
--
--   ranks_found    == what such a search found has rank 0
--   marked_found, nodes_found == the marked nodes are the nodes of what was found, ascending
use Rattle.std.proofs.Common.{ℕ, zero, suc, ◌≡◌, ◌*◌, ◌<◌, ◌≤◌, ◌⊎◌, inl, inr, ⊎_elim, min, Bool, true, false, cond, List, [], ◌∷◌, ◌++◌}
use Rattle.std.proofs.Common.{length, get_or, map, All, refl, sym, ap, ◌∙◌, subst, arith, append-nil, mul-le-mul_left}
use Rattle.std.proofs.lemmas.Bool.{cases_eq, cases_lt}
use Rattle.ml_lists.specs.Ascending.{IsAscending, ascending}
use Rattle.ml_lists.specs.Member.{IsMember}
use Rattle.ml_lists.proofs.Ascending.{ascending-is, ascending-member, member-ascending, ascending_same, ascending-append}
use Rattle.ml_lists.proofs.Member.{Image, member-map, member-map_from, member-append, member-append_left, member-append_right, place-member, All-member, member-All}
use Rattle.ml_graph.specs.Graph.{Graph}
use Rattle.ml_sequent.specs.declared.choice.Side.{Side}
use Rattle.ml_sequent.specs.declared.reach.Visit.{Visit}
use Rattle.ml_sequent.specs.LocalWalk.{children}
use Rattle.ml_sequent.specs.private.Reach.{Leads, ends, moves, onto, onward, unranked, code, mark, marked_nodes, IsMarked, HasReached, ReachList}
use Rattle.ml_sequent.proofs.Reaching.{found_before}

-- ---- rank 0

module _ (g : Graph) (c : List (ℕ × Side)) (ranks : List ℕ) where
  rank_kept : (v w : Visit) → v.rank ≡ 0 → Leads (onward g c ranks) v w → w.rank ≡ 0
  rank_kept v w none (ends _) = none
  rank_kept v w none (moves _ u h way) =
      let i = member-map_from (onto ranks v.rank) u (children g c v.node) h in
      let is : u.rank ≡ min v.rank (get_or ranks i.from 0) = ap (λ (x : Visit). x.rank) i.holds in
      rank_kept u w (omega (arith, none)) way

  -- what such a search found has rank 0
  pub ranks_found : (C : List ℕ) (found : List Visit) → HasReached (onward g c ranks) (map unranked C) found
      → All (λ v. v.rank ≡ 0) found
  ranks_found C found has = member-All (λ v. v.rank ≡ 0) found (λ w h.
      let r = (has w).0 h in
      let i = member-map_from unranked r.from C r.member in
      rank_kept r.from w (ap (λ (x : Visit). x.rank) i.holds) r.way)

-- ---- marks

-- what has the mark of its rank 0 among the marks is a node
node_inside : (width n size : ℕ) → width * n < width * size → n < size
node_inside width n size low = ⊎_elim
    (λ (less : n < size). less)
    (λ (more : size ≤ n). let step : width * size ≤ width * n = mul-le-mul_left width more in absurd (omega arith))
    (cases_lt n size)

module _ (width : ℕ) (marks : List Bool) where
  -- the last node, if it is marked
  abbrev last_node : ℕ → List ℕ
  last_node n = cond (mark marks (width * n)) (n ∷ []) []

  marked_below : (n v : ℕ) → IsMember v (marked_nodes width marks n) → (v < n) × (mark marks (width * v) ≡ true)
  marked_below zero v h = absurd h
  marked_below (suc n) v h =
      by_part (member-append v (marked_nodes width marks n) (last_node n) h) (marked_below n v)
    where
      by_mark : (b : Bool) → mark marks (width * n) ≡ b → IsMember v (cond b (n ∷ []) [])
          → (v < suc n) × (mark marks (width * v) ≡ true)
      by_mark true is (inl e) = (omega (arith, e), ap (λ k. mark marks (width * k)) e ∙ is)
      by_mark true is (inr none) = absurd none
      by_mark false is none = absurd none

      by_part : IsMember v (marked_nodes width marks n) ⊎ IsMember v (last_node n)
          → (IsMember v (marked_nodes width marks n) → (v < n) × (mark marks (width * v) ≡ true))
          → (v < suc n) × (mark marks (width * v) ≡ true)
      by_part (inl old) below = let i = below old in (omega (arith, i.0), i.1)
      by_part (inr last) below = by_mark (mark marks (width * n)) refl last

  below_marked : (n v : ℕ) → v < n → mark marks (width * v) ≡ true → IsMember v (marked_nodes width marks n)
  below_marked zero v low is = absurd (omega (arith, low))
  below_marked (suc n) v low is = by_place (cases_eq v n) (λ less. below_marked n v less is)
    where
      by_place : (v ≡ n) ⊎ (v ≡ n → ⊥)
          → (v < n → IsMember v (marked_nodes width marks n))
          → IsMember v (marked_nodes width marks n ++ last_node n)
      by_place (inl e) below =
          let here : mark marks (width * n) ≡ true = ap (λ k. mark marks (width * k)) (sym e) ∙ is in
          member-append_right v (marked_nodes width marks n) (last_node n)
          (subst (λ b. IsMember v (cond b (n ∷ []) [])) (sym here) (inl e))
      by_place (inr other) below =
          member-append_left v (marked_nodes width marks n) (last_node n) (below (omega (arith, low)))

  marked_ascends : (n : ℕ) → IsAscending (marked_nodes width marks n)
  marked_ascends zero = tt
  marked_ascends (suc n) = by_mark (mark marks (width * n)) (marked_ascends n)
    where
      by_mark : (b : Bool) → IsAscending (marked_nodes width marks n)
          → IsAscending (marked_nodes width marks n ++ cond b (n ∷ []) [])
      by_mark true up = ascending-append (marked_nodes width marks n) n up (λ y h. (marked_below n y h).0)
      by_mark false up = subst IsAscending (sym (append-nil (marked_nodes width marks n))) up

  -- the marked nodes are the nodes of what was found, ascending
  pub marked_found : (size : ℕ) (found : List Visit)
      → IsMarked width marks found
      → length marks ≡ width * size
      → 0 < width
      → All (λ v. v.rank ≡ 0) found
      → marked_nodes width marks size ≡ ascending (map (λ v. v.node) found)
  marked_found size found is room wide ranks =
      ascending_same (marked_nodes width marks size) (ascending nodes) (marked_ascends size) (ascending-is nodes) to
      back
    where
      nodes : List ℕ
      nodes = map (λ v. v.node) found

      to : (n : ℕ) → IsMember n (marked_nodes width marks size) → IsMember n (ascending nodes)
      to n h =
          let is_marked = (marked_below size n h).1 in
          let at : code width (unranked n) ≡ width * n = omega arith in
          let seen = found_before width marks found (unranked n) is wide (ap (mark marks) at ∙ is_marked) in
          member-ascending n nodes (member-map (λ (v : Visit). v.node) (unranked n) found seen)

      of_image : (n : ℕ) → Image (λ (v : Visit). v.node) n found → IsMember n (marked_nodes width marks size)
      of_image n i =
          let rank = All-member (λ v. v.rank ≡ 0) found ranks i.from i.member in
          let same : width * n ≡ width * i.from.node = ap (λ k. width * k) i.holds in
          let at : width * n ≡ code width i.from = omega (arith, rank) in
          below_marked size n (node_inside width n size (omega (arith, room, (is.low i.from i.member).1)))
          (ap (mark marks) at ∙ is.marked i.from i.member)

      back : (n : ℕ) → IsMember n (ascending nodes) → IsMember n (marked_nodes width marks size)
      back n h = of_image n (member-map_from (λ (v : Visit). v.node) n found (ascending-member n nodes h))

-- the same, as a search holds it
pub nodes_found : (r : ReachList) (width size : ℕ) (marks seen : List Bool) (found : List Visit) (nodes : List ℕ)
    → record { width = width; room = length marks; found = found } ≡ r
    → IsMarked width marks found
    → r.room ≡ r.width * size
    → All (λ v. v.rank ≡ 0) r.found
    → 0 < length found
    → seen ≡ marks
    → nodes ≡ marked_nodes width seen size
    → nodes ≡ ascending (map (λ (v : Visit). v.node) r.found)
nodes_found r width size marks seen found nodes view is room ranks some same made =
    let d : Visit = record { node = 0; rank = 0 } in
    let low = (is.low (get_or found 0 d) (place-member found 0 d some)).0 in
    let sizes : length marks ≡ width * size = subst (λ (x : ReachList). x.room ≡ x.width * size) (sym view) room in
    let flat = subst (λ (x : ReachList). All (λ v. v.rank ≡ 0) x.found) (sym view) ranks in
    made
    ∙ ap (λ bs. marked_nodes width bs size) same
    ∙ marked_found width marks size found is sizes (omega (arith, low)) flat
    ∙ ap (λ (x : ReachList). ascending (map (λ (v : Visit). v.node) x.found)) view
