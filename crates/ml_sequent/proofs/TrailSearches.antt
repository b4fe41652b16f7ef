-- The search of a spread along a trail.
--
--   search_started   == when the nodes of a sequent are reached
--   search_longer    == when the child of one side more is reached, behind a spread
--   search_stepped   == when one node more has gone on
--   search_over      == when all have
--   grown_same, grown_more == the front of a trail stays
--   trail_spread     == what has the nodes of a spread is the spread
use Rattle.std.proofs.Common.{ℕ, ◌≡◌, ◌+◌, ◌<◌, ◌≤◌, ◌⊎◌, inl, inr, List, [], ◌∷◌, length, get_or, take, refl, sym, ap, ◌∙◌, subst, arith}
use Rattle.std.proofs.Common.{length-append}
use Rattle.std.proofs.lemmas.Bool.{cases_eq}
use Rattle.std.proofs.lemmas.List.{get_or_append_left, take-append-le, take_all, length-take}
use Rattle.ml_lists.specs.Member.{IsMember}
use Rattle.ml_lists.proofs.Ascending.{ascending-is, ascending-member, member-ascending}
use Rattle.ml_lists.proofs.Member.{member-append, member-place, place-member}
use Rattle.ml_graph.specs.declared.node.Node.TheVariants as node
use Rattle.ml_graph.specs.Graph.{Graph, size, node_at}
use Rattle.ml_sequent.specs.declared.choice.Side.{Side}
use Rattle.ml_sequent.specs.Choice.{side_of, chosen, with_side}
use Rattle.ml_sequent.specs.LocalWalk.{InSpread, children}
use Rattle.ml_sequent.specs.Spread.{IsSpreadOf}
use Rattle.ml_sequent.specs.private.Trails.{IsJoined, IsUnderway, HasSpread, IsGrown, spread_at}
use Rattle.ml_sequent.specs.declared.choice.Side.{Side}
use Rattle.std.proofs.Common.{None}
use Rattle.ml_sequent.proofs.LocalWalks.{spread_is_least}
use Rattle.ml_sequent.proofs.LongerSpreads.{children_new, new_child, longer_in}
use Rattle.ml_sequent.proofs.TrailNodes.{joined_kept}

-- the front of a trail stays
pub grown_same : (nodes : List ℕ) → IsGrown nodes nodes
grown_same nodes = take_all (length nodes) nodes (omega arith)

pub grown_more : (ks first nodes nodes2 : List ℕ) → IsGrown first nodes → IsJoined ks nodes nodes2 → IsGrown first nodes2
grown_more ks first nodes nodes2 is j =
    let fits : length first ≤ length nodes = omega (arith, ap length is, length-take (length first) nodes) in
    ap (take (length first)) j.grown ∙ take-append-le (length first) nodes j.new fits ∙ is

module _ (g : Graph) (c : List (ℕ × Side)) (C : List ℕ) where
  -- when the nodes of a sequent are reached
  pub search_started : (nodes : List ℕ) → IsJoined C [] nodes → IsUnderway g c C 0 nodes
  search_started nodes j = record {
    sound = λ m h. (spread_is_least g c C).has m (j.only m (subst (IsMember m) j.grown h));
    closed = λ k m low h. absurd (omega arith);
    seeded = j.all;
    within = omega arith;
  }

  -- when one node more has gone on
  pub search_stepped : (i : ℕ) (nodes nodes2 : List ℕ) → IsUnderway g c C i nodes
      → i < length nodes
      → IsJoined (children g c (get_or nodes i 0)) nodes nodes2
      → IsUnderway g c C (i + 1) nodes2
  search_stepped i nodes nodes2 u low j = record {
    sound = λ m h. sound m (member-append m nodes j.new (subst (IsMember m) j.grown h));
    closed = λ k m k_low h. closed k m k_low h (cases_eq k i);
    seeded = λ m h. kept m (u.seeded m h);
    within = omega (arith, low, ap length j.grown, length-append nodes j.new);
  }
    where
      kept : (m : ℕ) → IsMember m nodes → IsMember m nodes2
      kept = joined_kept (children g c (get_or nodes i 0)) nodes nodes2 j

      same : (k : ℕ) → k < length nodes → get_or nodes2 k 0 ≡ get_or nodes k 0
      same k k_low = ap (λ xs. get_or xs k 0) j.grown ∙ get_or_append_left nodes j.new 0 k k_low

      sound : (m : ℕ) → IsMember m nodes ⊎ IsMember m j.new → InSpread g c C m
      sound m (inl old) = u.sound m old
      sound m (inr new) =
          (spread_is_least g c C).closed (get_or nodes i 0) m (u.sound (get_or nodes i 0) (place-member nodes i 0 low)) (j.only m new)

      closed : (k m : ℕ) → k < i + 1 → IsMember m (children g c (get_or nodes2 k 0)) → (k ≡ i) ⊎ (k ≡ i → ⊥) → IsMember m nodes2
      closed k m k_low h (inl here) =
          let at = same k (omega arith) ∙ ap (λ p. get_or nodes p 0) here in
          j.all m (subst (λ n. IsMember m (children g c n)) at h)
      closed k m k_low h (inr other) =
          let before : k < i = omega arith in
          kept m (u.closed k m before (subst (λ n. IsMember m (children g c n)) (same k (omega arith)) h))

  -- when all have
  pub search_over : (i : ℕ) (nodes : List ℕ) → IsUnderway g c C i nodes → length nodes ≤ i → HasSpread g c C nodes
  search_over i nodes u all m = (u.sound m, (λ s. (spread_is_least g c C).least nodes closed u.seeded m s))
    where
      closed : (n k : ℕ) → IsMember n nodes → IsMember k (children g c n) → IsMember k nodes
      closed n k h child =
          let p = member-place n nodes h in
          u.closed p.place k (omega (arith, p.below)) (subst (λ x. IsMember k (children g c x)) (sym (p.holds 0)) child)

  -- what has the nodes of a spread is the spread
  pub trail_spread : (nodes : List ℕ) → ((m : ℕ) → IsMember m nodes → m < size g) → HasSpread g c C nodes
      → IsSpreadOf g C c (spread_at nodes c)
  trail_spread nodes low has = record {
    choice = refl;
    ascends = ascending-is nodes;
    low = λ m h. low m (ascending-member m nodes h);
    nodes = λ m. ((λ h. (has m).0 (ascending-member m nodes h)), (λ s. member-ascending m nodes ((has m).1 s)));
  }

module _ (g : Graph) (c : List (ℕ × Side)) (at : ℕ) (s : Side) (l r : ℕ) (is_or : node_at g at ≡ node.Or l r)
    (open' : side_of c at ≡ None) where
  -- when the child of one side more is reached, behind a spread
  pub search_longer : (C nodes nodes2 : List ℕ) → IsSpreadOf g C c (spread_at nodes c)
      → IsMember at nodes
      → IsJoined (chosen s l r ∷ []) nodes nodes2
      → IsUnderway g (with_side c at s) C (length nodes) nodes2
  search_longer C nodes nodes2 is here j = record {
    sound = λ m h. sound m (member-append m nodes j.new (subst (IsMember m) j.grown h));
    closed = λ k m low h. closed m (get_or nodes k 0) (place-member nodes k 0 low) (subst (λ n. IsMember m (children g (with_side c at s) n)) (same k low) h);
    seeded = λ m h. kept m (of_spread m ((spread_is_least g c C).has m h));
    within = omega (arith, ap length j.grown, length-append nodes j.new);
  }
    where
      kept : (m : ℕ) → IsMember m nodes → IsMember m nodes2
      kept = joined_kept (chosen s l r ∷ []) nodes nodes2 j

      in_spread : (m : ℕ) → IsMember m nodes → InSpread g c C m
      in_spread m h = (is.nodes m).0 (member-ascending m nodes h)

      of_spread : (m : ℕ) → InSpread g c C m → IsMember m nodes
      of_spread m i = ascending-member m nodes ((is.nodes m).1 i)

      same : (k : ℕ) → k < length nodes → get_or nodes2 k 0 ≡ get_or nodes k 0
      same k k_low = ap (λ xs. get_or xs k 0) j.grown ∙ get_or_append_left nodes j.new 0 k k_low

      longer : (m : ℕ) → InSpread g c C m → InSpread g (with_side c at s) C m
      longer = longer_in g c at s l r is_or open' C

      child : InSpread g (with_side c at s) C (chosen s l r)
      child =
          (spread_is_least g (with_side c at s) C).closed at (chosen s l r) (longer at (in_spread at here))
          (new_child g c at s l r is_or open')

      sound : (m : ℕ) → IsMember m nodes ⊎ IsMember m j.new → InSpread g (with_side c at s) C m
      sound m (inl old) = longer m (in_spread m old)
      sound m (inr new) = of_new (j.only m new)
        where
          of_new : IsMember m (chosen s l r ∷ []) → InSpread g (with_side c at s) C m
          of_new (inl e) = subst (InSpread g (with_side c at s) C) (sym e) child
          of_new (inr none) = absurd none

      closed : (m n : ℕ) → IsMember n nodes → IsMember m (children g (with_side c at s) n) → IsMember m nodes2
      closed m n h step = from (children_new g c at s l r is_or open' n m step)
        where
          from : (m ≡ chosen s l r) ⊎ IsMember m (children g c n) → IsMember m nodes2
          from (inl e) = j.all m (inl e)
          from (inr old) = kept m (of_spread m ((spread_is_least g c C).closed n m (in_spread n h) old))
