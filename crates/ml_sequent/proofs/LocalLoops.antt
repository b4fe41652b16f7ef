-- Closed local walks.
--
-- The lowest priority of a local walk is that of a node on it. Where the walk is closed, this node is on a closed
-- walk of its own through nodes of no lower priority.
--
--   LowestNode         == a node on a walk that has its lowest priority, and the two parts of the walk
--   lowest_node        == there is one
--   lowest_on_cycle    == on a closed walk it is on a cycle
--   spread_along       == what a local walk reaches from the spread is in the spread
use Rattle.std.proofs.Common.{ℕ, ◌≡◌, ◌<◌, ◌≤◌, ◌⊎◌, inl, inr, min, List, refl, arith}
use Rattle.std.proofs.lemmas.Bool.{cases_lt}
use Rattle.ml_lists.specs.Member.{IsMember}
use Rattle.ml_graph.specs.Graph.{Graph, priority_at}
use Rattle.ml_sequent.specs.declared.choice.Side.{Side}
use Rattle.ml_sequent.specs.LocalWalk.{LocalWalk, stays, goes, InSpread, children}
use Rattle.ml_sequent.specs.Spread.{OnCycle}
use Rattle.ml_sequent.proofs.LocalWalks.{walk_joined, end_low}

module _ (g : Graph) (c : List (ℕ × Side)) where
  -- a node on a walk that has its lowest priority
  pub record LowestNode (n k m : ℕ) : Type 0 where
    pub node : ℕ
    pub exact : priority_at g node ≡ k
    pub before : ℕ
    pub to : LocalWalk g c n before node
    pub before_high : k ≤ before
    pub behind : ℕ
    pub onward : LocalWalk g c node behind m
    pub behind_high : k ≤ behind

  pub lowest_node : (n k m : ℕ) → LocalWalk g c n k m → LowestNode n k m
  lowest_node n k m (stays _) = record {
    node = n;
    exact = refl;
    before = priority_at g n;
    to = stays n;
    before_high = omega arith;
    behind = priority_at g n;
    onward = stays n;
    behind_high = omega arith;
  }
  lowest_node n k m (goes {k = j} _ next child w) = by_case (cases_lt (priority_at g n) j) (lowest_node next j m w)
    where
      by_case : (priority_at g n < j) ⊎ (j ≤ priority_at g n)
          → LowestNode next j m
          → LowestNode n (min (priority_at g n) j) m
      by_case (inl first) l = record {
        node = n;
        exact = omega arith;
        before = priority_at g n;
        to = stays n;
        before_high = omega arith;
        behind = min (priority_at g n) j;
        onward = goes n next child w;
        behind_high = omega arith;
      }
      by_case (inr later) l = record {
        node = l.node;
        exact = omega (arith, l.exact);
        before = min (priority_at g n) l.before;
        to = goes n next child l.to;
        before_high = omega (arith, l.before_high);
        behind = l.behind;
        onward = l.onward;
        behind_high = omega (arith, l.behind_high);
      }

  around : (n next k before node behind : ℕ)
      → IsMember next (children g c n)
      → LocalWalk g c next before node
      → LocalWalk g c node behind n
      → priority_at g node ≡ k
      → k ≤ before
      → k ≤ behind
      → k ≤ priority_at g n
      → OnCycle g c node
  around n next k before node behind child to (stays _) exact high_before high_behind high =
      record { next = next; child = child; lowest = before; walk = to; high = omega arith }
  around n next k before node behind child to (goes {k = i} _ first here w) exact high_before high_behind high =
      record {
        next = first;
        child = here;
        lowest = min i (min (priority_at g n) before);
        walk = walk_joined g c first i n (min (priority_at g n) before) node w (goes n next child to);
        high = omega arith;
      }

  -- on a closed walk this node is on a cycle
  pub record CycleOn (n k : ℕ) : Type 0 where
    pub node : ℕ
    pub exact : priority_at g node ≡ k
    pub before : ℕ
    pub to : LocalWalk g c n before node
    pub cycle : OnCycle g c node

  pub lowest_on_cycle : (n next k : ℕ) → IsMember next (children g c n) → LocalWalk g c next k n → CycleOn next k
  lowest_on_cycle n next k child w =
      let l = lowest_node next k n w in
      record {
        node = l.node;
        exact = l.exact;
        before = l.before;
        to = l.to;
        cycle =
            around n next k l.before l.node l.behind child l.to l.onward l.exact l.before_high l.behind_high
            (end_low g c next k n w);
      }

  -- what a local walk reaches from the spread is in the spread
  pub spread_along : (C : List ℕ) (n k m : ℕ) → InSpread g c C n → LocalWalk g c n k m → InSpread g c C m
  spread_along C n k m s w =
      record {
        from = s.from;
        member = s.member;
        lowest = min s.lowest k;
        walk = walk_joined g c s.from s.lowest n k m
            s.walk w;
      }
