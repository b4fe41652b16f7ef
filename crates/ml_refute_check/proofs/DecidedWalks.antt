-- Local walks are decided.
--
-- A walk has the lowest priority k exactly where it leads through a node of priority k, before and behind which all its
-- nodes have priority k or more.
--
--   Through k n m   == a local walk leads from n to m through a node of priority k, and through no lower one
--   walk_through, through_walk == the same as a walk of the lowest priority k
--   lowest_occurs   == the lowest priority of a walk is that of some node
--   decided_walk    == whether a walk of a given lowest priority leads from one node to another is decided
--   decided_spread  == so is whether a node is in the spread of nodes
use Rattle.std.proofs.Common.{◌≡◌, ℕ, ◌<◌, ◌≤◌, ◌⊎◌, min, List, All, inl, inr, refl, subst, arith}
use Rattle.std.proofs.lemmas.Bool.{cases_lt}
use Rattle.ml_lists.specs.Found.{Found}
use Rattle.ml_lists.proofs.Decided.{Decided, decided_same, decided_both, decided_number}
use Rattle.ml_lists.proofs.Member.{All-member}
use Rattle.ml_graph.specs.Graph.{Graph, IsGraph, size, priority_at}
use Rattle.ml_sequent.specs.declared.choice.Side.{Side}
use Rattle.ml_sequent.specs.LocalWalk.{LocalWalk, stays, goes, InSpread}
use Rattle.ml_sequent.proofs.LocalWalks.{walk_low, end_low, walk_joined}
use Rattle.ml_sequent.proofs.RankedWalks.{children_low}
use Rattle.ml_lists.proofs.Deciding.{some_below, some_member, Having}
use Rattle.ml_refutation.proofs.HighWalks.{High, decided_high}

module _ (g : Graph) (c : List (ℕ × Side)) where
  -- a walk through a node of priority k, and through no lower one
  pub record Through (k n m : ℕ) : Type 0 where
    pub node : ℕ
    pub low : node < size g
    pub lowest : priority_at g node ≡ k
    pub before : High g c k n node
    pub behind : High g c k node m

  pub through_walk : (k n m : ℕ) → Through k n m → LocalWalk g c n k m
  through_walk k n m t =
      let first = end_low g c n t.before.lowest t.node t.before.walk in
      let second = walk_low g c t.node t.behind.lowest m t.behind.walk in
      let same : min t.before.lowest t.behind.lowest ≡ k =
      omega (arith, t.before.high, t.behind.high, t.lowest, first, second) in
      subst (λ x. LocalWalk g c n x m) same
      (walk_joined g c n t.before.lowest t.node t.behind.lowest m t.before.walk t.behind.walk)

  module _ (ok : IsGraph g) where
    pub walk_through : (n k m : ℕ) → n < size g → LocalWalk g c n k m → Through k n m
    walk_through n k m low (stays _) =
        let here : High g c (priority_at g n) n n =
        record { lowest = priority_at g n; walk = stays n; high = omega arith } in
        record { node = n; low = low; lowest = refl; before = here; behind = here }
    walk_through n k m low (goes {k = i} _ next child w) =
        by_order (walk_through next i m (children_low g c ok n next low child) w) (cases_lt i (priority_at g n))
      where
        by_order : Through i next m
            → (i < priority_at g n) ⊎ (priority_at g n ≤ i)
            → Through (min (priority_at g n) i) n m
        by_order t (inl less) =
            let same : i ≡ min (priority_at g n) i = omega arith in
            subst (λ x. Through x n m) same
            (record {
              node = t.node;
              low = t.low;
              lowest = t.lowest;
              before = record {
                lowest = min (priority_at g n) t.before.lowest;
                walk = goes n next child t.before.walk;
                high = omega (arith, t.before.high);
              };
              behind = t.behind;
            })
        by_order t (inr more) =
            let same : priority_at g n ≡ min (priority_at g n) i = omega arith in
            subst (λ x. Through x n m) same
            (record {
              node = n;
              low = low;
              lowest = refl;
              before = record { lowest = priority_at g n; walk = stays n; high = omega arith };
              behind = record { lowest = min (priority_at g n) i; walk = goes n next child w; high = omega arith };
            })

    -- the lowest priority of a walk is that of some node
    pub lowest_occurs : (n k m : ℕ) → n < size g → LocalWalk g c n k m → Found (λ x. priority_at g x ≡ k) (size g)
    lowest_occurs n k m low w =
        let t = walk_through n k m low w in record { place = t.node; below = t.low; holds = t.lowest }

    pub decided_walk : (n k m : ℕ) → n < size g → Decided (LocalWalk g c n k m)
    decided_walk n k m low =
        decided_same there back
        (some_below Between (size g)
        (λ x x_low. decided_both (decided_number (priority_at g x) k)
        (decided_both (decided_high g c ok k n x low) (decided_high g c ok k x m x_low))))
      where
        Between : ℕ → Type 0
        Between x = (priority_at g x ≡ k) × (High g c k n x × High g c k x m)

        there : Found Between (size g) → LocalWalk g c n k m
        there f = through_walk k n m (record {
          node = f.place;
          low = f.below;
          lowest = f.holds.0;
          before = f.holds.1.0;
          behind = f.holds.1.1;
        })

        back : LocalWalk g c n k m → Found Between (size g)
        back w =
            let t = walk_through n k m low w in
            record { place = t.node; below = t.low; holds = (t.lowest, (t.before, t.behind)) }

    pub decided_spread : (C : List ℕ) → All (λ n. n < size g) C → (m : ℕ) → Decided (InSpread g c C m)
    decided_spread C C_low m =
        decided_same
        (λ (h : Having (λ from. High g c 0 from m) C).
        record { from = h.item; member = h.member; lowest = h.holds.lowest; walk = h.holds.walk })
        (λ s.
        let high : High g c 0 s.from m = record { lowest = s.lowest; walk = s.walk; high = omega arith } in
        record { item = s.from; member = s.member; holds = high })
        (some_member (λ from. High g c 0 from m) C
        (λ from h. decided_high g c ok 0 from m (All-member (λ n. n < size g) C C_low from h)))
