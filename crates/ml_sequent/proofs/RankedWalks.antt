-- Ways of the search, and local walks with their lowest priorities.
--
--   children_low     == the local children of a node are nodes
--   one_below, two_below == one number and two numbers below a bound
--   level_min        == the lower of two ranked priorities is that of the lower rank
--   level_order      == an entry of an ascending list that is no greater stands no later
--   walk_below       == where a local walk leads is a node
--   spread_low       == so the nodes of a spread are nodes
--   looked_up, never_missed == a binary search finds a member of an ascending list
--   Traced, traced   == a way of the search is a local walk, of which it keeps the rank of the lowest priority
--   Ranked, ranked   == a local walk is a way of the search
use Rattle.std.proofs.Common.{ℕ, ◌≡◌, ◌<◌, ◌≤◌, ◌↔◌, inl, inr, ⊎_elim, min, List, [], ◌∷◌, length, get_or, Option, Some, None, refl}
use Rattle.std.proofs.Common.{sym, ap, ◌∙◌, subst, arith, All, Ok, Err}
use Rattle.std.proofs.lemmas.Bool.{cases_eq, cases_lt}
use Rattle.std.proofs.lemmas.List.Elements.{All-nil, All-cons}
use Rattle.std.specs.List.Sorted.{IsBinarySearchResult}
use Rattle.std.specs.Ordering.{nat_cmp}
use Rattle.std.proofs.lemmas.List.Sorted.{searched}
use Rattle.ml_base.proofs.IdSets.{search_member}
use Rattle.ml_lists.specs.Ascending.{IsAscending}
use Rattle.ml_lists.specs.Member.{IsMember}
use Rattle.ml_lists.proofs.Ascending.{ascending-apart}
use Rattle.ml_lists.proofs.Member.{Image, member-map, member-map_from, All-member, member-place, place-member}
use Rattle.ml_graph.specs.declared.node.Node.{Node}
use Rattle.ml_graph.specs.declared.node.Node.TheVariants as node
use Rattle.ml_graph.specs.Graph.{Graph, IsGraph, size, node_at, priority_at}
use Rattle.ml_graph.proofs.References.{and_left, and_right, or_left, or_right}
use Rattle.ml_sequent.specs.declared.choice.Side.{Side}
use Rattle.ml_sequent.specs.declared.choice.Side.TheVariants.{Left, Right}
use Rattle.ml_sequent.specs.declared.reach.Visit.{Visit}
use Rattle.ml_sequent.specs.Choice.{side_of}
use Rattle.ml_sequent.specs.LocalWalk.{LocalWalk, stays, goes, children, children_of, chosen_child, InSpread}
use Rattle.ml_sequent.specs.private.Reach.{Leads, ends, moves, onto, onward, LevelList, IsRanked}
use Rattle.ml_sequent.proofs.LocalWalks.{walk_low}

-- the local children of a node are nodes
pub children_low : (g : Graph) (c : List (ℕ × Side))
    → IsGraph g
    → (n m : ℕ)
    → n < size g
    → IsMember m (children g c n)
    → m < size g
children_low g c ok n m low h = of_node (node_at g n) refl h
  where
    of_two : (l r : ℕ) → l < size g → r < size g → IsMember m (l ∷ r ∷ []) → m < size g
    of_two l r left right (inl e) = subst (λ k. k < size g) (sym e) left
    of_two l r left right (inr (inl e)) = subst (λ k. k < size g) (sym e) right
    of_two l r left right (inr (inr none)) = absurd none

    of_side : (o : Option Side) (l r : ℕ) → l < size g → r < size g → IsMember m (chosen_child o l r) → m < size g
    of_side None l r left right none = absurd none
    of_side (Some Left) l r left right (inl e) = subst (λ k. k < size g) (sym e) left
    of_side (Some Left) l r left right (inr none) = absurd none
    of_side (Some Right) l r left right (inl e) = subst (λ k. k < size g) (sym e) right
    of_side (Some Right) l r left right (inr none) = absurd none

    of_node : (x : Node) → node_at g n ≡ x → IsMember m (children_of c n x) → m < size g
    of_node node.True is none = absurd none
    of_node node.False is none = absurd none
    of_node (node.Lit p positive) is none = absurd none
    of_node (node.And l r) is both = of_two l r (and_left g ok n low l r is) (and_right g ok n low l r is) both
    of_node (node.Or l r) is one =
        of_side (side_of c n) l r (or_left g ok n low l r is) (or_right g ok n low l r is) one
    of_node (node.Diamond a to) is none = absurd none
    of_node (node.Square a to) is none = absurd none

-- one number and two numbers below a bound
pub one_below : (n k : ℕ) → k < n → All (λ m. m < n) (k ∷ [])
one_below n k low = All-cons (λ m. m < n) k [] low (All-nil (λ (m : ℕ). m < n))

pub two_below : (n k j : ℕ) → k < n → j < n → All (λ m. m < n) (k ∷ j ∷ [])
two_below n k j k_low j_low = All-cons (λ m. m < n) k (j ∷ []) k_low (one_below n j j_low)

-- an earlier entry of an ascending list is no greater
pub no_later : (xs : List ℕ) (i j : ℕ) → IsAscending xs → i ≤ j → j < length xs → get_or xs i 0 ≤ get_or xs j 0
no_later xs i j up order low = ⊎_elim
    (λ (same : i ≡ j). let e = ap (λ k. get_or xs k 0) same in omega arith)
    (λ (other : i ≡ j → ⊥). let apart = ascending-apart xs i j 0 up (omega arith) low in omega arith)
    (cases_eq i j)

-- the lower of two entries is that of the lower place
pub level_min : (xs : List ℕ) (i j : ℕ) → IsAscending xs → i < length xs → j < length xs
    → min (get_or xs i 0) (get_or xs j 0) ≡ get_or xs (min i j) 0
level_min xs i j up i_low j_low = ⊎_elim
    (λ (less : i < j).
    let order = no_later xs i j up (omega arith) j_low in
    let first : min i j ≡ i = omega arith in
    let value : min (get_or xs i 0) (get_or xs j 0) ≡ get_or xs i 0 = omega arith in
    value ∙ ap (λ k. get_or xs k 0) (sym first))
    (λ (more : j ≤ i).
    let order = no_later xs j i up more i_low in
    let second : min i j ≡ j = omega arith in
    let value : min (get_or xs i 0) (get_or xs j 0) ≡ get_or xs j 0 = omega arith in
    value ∙ ap (λ k. get_or xs k 0) (sym second))
    (cases_lt i j)

-- an entry that is no greater stands no later
pub level_order : (xs : List ℕ) (i j : ℕ) → IsAscending xs → i < length xs → j < length xs
    → get_or xs i 0 ≤ get_or xs j 0 → i ≤ j
level_order xs i j up i_low j_low order = ⊎_elim
    (λ (less : j < i). let apart = ascending-apart xs j i 0 up less i_low in absurd (omega arith))
    (λ (more : i ≤ j). more)
    (cases_lt j i)

-- the nodes of the lowest rank are those of the lowest priority
pub lowest_rank : (g : Graph) (levels : LevelList) (n : ℕ) → IsRanked g levels → length g.priorities ≡ size g → n < size g
    → (get_or levels.ranks n 0 ≡ 0) ↔ ((m : ℕ) → m < size g → priority_at g n ≤ priority_at g m)
lowest_rank g levels n is all n_low = (
  λ none m m_low.
      let order =
      no_later levels.priorities (get_or levels.ranks n 0) (get_or levels.ranks m 0) is.ascends (omega arith) (is.low m m_low)
      in
      let first = is.right n n_low in
      let second = is.right m m_low in
      omega arith,
  λ least.
      let low = is.low n n_low in
      let first = get_or levels.priorities 0 0 in
      let at = member-place first g.priorities (is.occur first (place-member levels.priorities 0 0 (omega arith))) in
      let here = at.holds 0 in
      let least_here = least at.place (omega (arith, at.below)) in
      let own = is.right n n_low in
      let none =
      level_order levels.priorities (get_or levels.ranks n 0) 0 is.ascends low (omega arith) (omega (arith, here, least_here))
      in
      omega arith,
)

-- where a local walk leads is a node
pub walk_below : (g : Graph) (c : List (ℕ × Side))
    → IsGraph g
    → (n k m : ℕ)
    → n < size g
    → LocalWalk g c n k m
    → m < size g
walk_below g c ok n k m low (stays _) = low
walk_below g c ok n k m low (goes {k = j} _ next child w) =
    walk_below g c ok next j m (children_low g c ok n next low child) w

-- and its lowest priority is none below that of all nodes
pub walk_least : (g : Graph) (c : List (ℕ × Side)) (p : ℕ)
    → IsGraph g
    → ((n : ℕ) → n < size g → p ≤ priority_at g n)
    → (n k m : ℕ)
    → n < size g
    → LocalWalk g c n k m
    → p ≤ k
walk_least g c p ok least n k m low (stays _) = least n low
walk_least g c p ok least n k m low (goes {k = j} _ next child w) =
    let here = least n low in
    let later = walk_least g c p ok least next j m (children_low g c ok n next low child) w in
    omega arith

-- so the nodes of a spread are nodes
pub spread_low : (g : Graph) (ok : IsGraph g) (C : List ℕ) (low : All (λ n. n < size g) C) (c : List (ℕ × Side)) (m : ℕ)
    → InSpread g c C m
    → m < size g
spread_low g ok C low c m s =
    walk_below g c ok s.from s.lowest m (All-member (λ n. n < size g) C low s.from s.member) s.walk

-- ---- ranks as they are looked up

-- a binary search finds a member of an ascending list
pub looked_up : (xs : List ℕ) (x i : ℕ) → IsAscending xs → IsBinarySearchResult (λ y. nat_cmp y x) xs (Ok i)
    → (i < length xs) × (get_or xs i 0 ≡ x)
looked_up xs x i up found = searched xs x (Ok i) found (λ j k order low. no_later xs j k up order low)

pub never_missed : (xs : List ℕ) (x i : ℕ)
    → IsAscending xs
    → IsMember x xs
    → IsBinarySearchResult (λ y. nat_cmp y x) xs (Err i)
    → ⊥
never_missed xs x i up member found = let is = (search_member xs x (Err i) up found).1 member in cc

module _ (g : Graph) (c : List (ℕ × Side)) (levels : LevelList) (ok : IsGraph g) (is : IsRanked g levels) where
  -- a local walk between two places, and the rank of the lowest priority on it
  pub record Traced (v w : Visit) : Type 0 where
    pub rank : ℕ
    pub low : rank < length levels.priorities
    pub walk : LocalWalk g c v.node (get_or levels.priorities rank 0) w.node
    pub holds : w.rank ≡ min v.rank rank

  -- a way of the search is a local walk, of which it keeps the rank of the lowest priority
  pub traced : (v w : Visit)
      → v.node < size g
      → v.rank ≤ get_or levels.ranks v.node 0
      → Leads (onward g c levels.ranks) v w
      → Traced v w
  traced v w low fits (ends _) = record {
    rank = get_or levels.ranks v.node 0;
    low = is.low v.node low;
    walk = subst (λ k. LocalWalk g c v.node k v.node) (sym (is.right v.node low)) (stays v.node);
    holds = omega arith;
  }
  traced v w low fits (moves _ u h way) =
      from (member-map_from (onto levels.ranks v.rank) u (children g c v.node) h)
      (λ u_low u_fits. traced u w u_low u_fits way)
    where
      from : Image (onto levels.ranks v.rank) u (children g c v.node)
          → (u.node < size g → u.rank ≤ get_or levels.ranks u.node 0 → Traced u w)
          → Traced v w
      from i rest =
          let node_is : u.node ≡ i.from = ap (λ (x : Visit). x.node) i.holds in
          let rank_is : u.rank ≡ min v.rank (get_or levels.ranks i.from 0) = ap (λ (x : Visit). x.rank) i.holds in
          let child : IsMember u.node (children g c v.node) =
          subst (λ n. IsMember n (children g c v.node)) (sym node_is) i.member in
          let u_low = children_low g c ok v.node u.node low child in
          let ranks_are : get_or levels.ranks u.node 0 ≡ get_or levels.ranks i.from 0 =
          ap (λ n. get_or levels.ranks n 0) node_is in
          step (rest u_low (omega arith)) child u_low (rank_is ∙ ap (min v.rank) (sym ranks_are))
        where
          step : Traced u w → IsMember u.node (children g c v.node) → u.node < size g
              → u.rank ≡ min v.rank (get_or levels.ranks u.node 0)
              → Traced v w
          step t child u_low rank_is =
              let below = walk_low g c u.node (get_or levels.priorities t.rank 0) w.node t.walk in
              let order =
              level_order levels.priorities t.rank (get_or levels.ranks u.node 0) is.ascends t.low (is.low u.node u_low)
              (omega (arith, is.right u.node u_low))
              in
              let lower =
              level_min levels.priorities (get_or levels.ranks v.node 0) t.rank is.ascends (is.low v.node low) t.low in
              let lowest :
              min (priority_at g v.node) (get_or levels.priorities t.rank 0)
              ≡ get_or levels.priorities (min (get_or levels.ranks v.node 0) t.rank) 0 =
              ap (λ k. min k (get_or levels.priorities t.rank 0)) (sym (is.right v.node low)) ∙ lower
              in
              record {
                rank = min (get_or levels.ranks v.node 0) t.rank;
                low = omega (arith, t.low);
                walk = subst (λ k. LocalWalk g c v.node k w.node) lowest (goes v.node u.node child t.walk);
                holds = omega (arith, t.holds);
              }

  -- a local walk from n to m, as the search goes along it, and the rank of the lowest priority on it
  pub record Ranked (n k m : ℕ) : Type 0 where
    pub rank : ℕ
    pub low : rank < length levels.priorities
    pub holds : get_or levels.priorities rank 0 ≡ k
    pub way : (r : ℕ) → r ≤ get_or levels.ranks n 0
        → Leads (onward g c levels.ranks) (record { node = n; rank = r }) (record { node = m; rank = min r rank })

  pub ranked : (n k m : ℕ) → n < size g → LocalWalk g c n k m → Ranked n k m
  ranked n k m low (stays _) = record {
    rank = get_or levels.ranks n 0;
    low = is.low n low;
    holds = is.right n low;
    way = λ r fits.
        let same : r ≡ min r (get_or levels.ranks n 0) = omega arith in
        subst (λ q. Leads (onward g c levels.ranks) (record { node = n; rank = r }) (record { node = n; rank = q }))
        same (ends (record { node = n; rank = r }));
  }
  ranked n k m low (goes {k = j} _ next child w) = step (ranked next j m (children_low g c ok n next low child) w)
    where
      step : Ranked next j m → Ranked n (min (priority_at g n) j) m
      step t =
          let next_low = children_low g c ok n next low child in
          let below = walk_low g c next j m w in
          let order =
          level_order levels.priorities t.rank (get_or levels.ranks next 0) is.ascends t.low (is.low next next_low)
          (omega (arith, is.right next next_low, t.holds))
          in
          let lower = level_min levels.priorities (get_or levels.ranks n 0) t.rank is.ascends (is.low n low) t.low in
          record {
            rank = min (get_or levels.ranks n 0) t.rank;
            low = omega (arith, t.low);
            holds = sym lower ∙ ap (λ x. min x (get_or levels.priorities t.rank 0)) (is.right n low)
                ∙ ap (min (priority_at g n)) t.holds;
            way = λ r fits.
                let same : min (min r (get_or levels.ranks next 0)) t.rank
                ≡ min r (min (get_or levels.ranks n 0) t.rank) = omega arith in
                moves (record { node = n; rank = r })
                (record { node = next; rank = min r (get_or levels.ranks next 0) })
                (member-map (onto levels.ranks r) next (children g c n) child)
                (subst
                (λ q.
                Leads (onward g c levels.ranks) (record { node = next; rank = min r (get_or levels.ranks next 0) })
                (record { node = m; rank = q }))
                same
                (t.way (min r (get_or levels.ranks next 0)) (omega arith)));
          }
