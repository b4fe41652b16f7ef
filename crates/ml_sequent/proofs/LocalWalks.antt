-- Local walks: their lowest priorities, and how they are put together.
--
--   walk_low, end_low == the lowest priority is at most that of the first node, and of the last
--   walk_more         == a walk that goes on to one child more
--   walk_joined       == two walks, one behind the other
--   spread_is_least   == the spread is the least closed set
use Rattle.std.proofs.Common.{ℕ, ◌≡◌, ◌≤◌, min, List, subst, arith}
use Rattle.ml_lists.specs.Member.{IsMember}
use Rattle.ml_graph.specs.Graph.{Graph, priority_at}
use Rattle.ml_sequent.specs.declared.choice.Side.{Side}
use Rattle.ml_sequent.specs.LocalWalk.{LocalWalk, stays, goes, children}
use Rattle.ml_sequent.specs.LeastSpread.{IsClosed, SpreadIsLeast}

module _ (g : Graph) (c : List (ℕ × Side)) where
  -- the lowest priority is at most that of the first node
  pub walk_low : (n k m : ℕ) → LocalWalk g c n k m → k ≤ priority_at g n
  walk_low n k m (stays _) = omega arith
  walk_low n k m (goes _ next child w) = omega arith

  -- and of the last
  pub end_low : (n k m : ℕ) → LocalWalk g c n k m → k ≤ priority_at g m
  end_low n k m (stays _) = omega arith
  end_low n k m (goes {k = j} _ next child w) = let low = end_low next j m w in omega arith

  -- a walk that goes on to one child more
  pub walk_more : (n k m e : ℕ)
      → LocalWalk g c n k m
      → IsMember e (children g c m)
      → LocalWalk g c n (min k (priority_at g e)) e
  walk_more n k m e (stays _) child = goes n e child (stays e)
  walk_more n k m e (goes {k = j} _ next here w) child =
      let same : min (priority_at g n) (min j (priority_at g e)) ≡ min (min (priority_at g n) j) (priority_at g e) = omega arith in
      subst (λ x. LocalWalk g c n x e) same (goes n next here (walk_more next j m e w child))

  -- two walks, one behind the other
  pub walk_joined : (n k m j e : ℕ) → LocalWalk g c n k m → LocalWalk g c m j e → LocalWalk g c n (min k j) e
  walk_joined n k m j e (stays _) v =
      let low = walk_low m j e v in
      let same : j ≡ min (priority_at g n) j = omega arith in
      subst (λ x. LocalWalk g c n x e) same v
  walk_joined n k m j e (goes {k = i} _ next here w) v =
      let same : min (priority_at g n) (min i j) ≡ min (min (priority_at g n) i) j = omega arith in
      subst (λ x. LocalWalk g c n x e) same (goes n next here (walk_joined next i m j e w v))

  -- a closed set has with a node all to which walks lead from it
  pub stays_inside : (S : List ℕ) → IsClosed g c S → (n k m : ℕ) → LocalWalk g c n k m → IsMember n S → IsMember m S
  stays_inside S closed n k m (stays _) h = h
  stays_inside S closed n k m (goes {k = j} _ next child w) h = stays_inside S closed next j m w (closed n next h child)

  -- the spread is the least closed set
  pub spread_is_least : (C : List ℕ) → SpreadIsLeast g c C
  spread_is_least C = record {
    has = λ m h. record { from = m; member = h; lowest = priority_at g m; walk = stays m };
    closed = λ n m s child. record { from = s.from; member = s.member; lowest = min s.lowest (priority_at g m); walk = walk_more s.from s.lowest n m s.walk child };
    least = λ S closed has m s. stays_inside S closed s.from s.lowest m s.walk (has s.from s.member);
  }
