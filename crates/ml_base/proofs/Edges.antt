-- The order of edges.
--
--   same_edge     == edges with one source, action and target are one
--   edges_exact   == edges that the order doesn't tell apart are one
--   target_within == an edge of a structure leads to one of its states
--   source_rises  == an edge that comes before another one has no greater source
--   places_ascend == edges from place to place ascend
use Rattle.std.proofs.Common.{◌≡◌, ℕ, ◌<◌, ◌≤◌, ◌==◌, nat_lt, Bool, true, false, cond, map, refl, sym, ap, arith}
use Rattle.std.specs.Cmp.{nat_cmp_is}
use Rattle.std.specs.Cmp.Lexicographic.{slice_cmp}
use Rattle.std.specs.List.{range_with_len}
use Rattle.std.specs.List.Sorted.{IsStrictlySortedBy}
use Rattle.std.specs.Ordering.{nat_cmp, ordering_then}
use Rattle.std.specs.declared.cmp.Ordering.TheVariants.{Less, Equal, Greater}
use Rattle.std.proofs.lemmas.Bool.Decides.{nat_tests}
use Rattle.std.proofs.lemmas.Map.Lookups.{exact_unsigned, exact_bytes}
use Rattle.ml_lists.specs.Member.{IsMember}
use Rattle.ml_lists.proofs.Chains.{range_ascends}
use Rattle.ml_lists.proofs.Member.{All-member}
use Rattle.ml_lists.proofs.Orderings.{both_tied}
use Rattle.ml_base.specs.EdgeOrder.{edge_cmp}
use Rattle.ml_base.specs.Structure.{IsStructure, Structure}
use Rattle.ml_base.specs.declared.structure.Edge.{Edge}

pub same_edge : (e f : Edge) → e.source ≡ f.source → e.action ≡ f.action → e.target ≡ f.target → e ≡ f
same_edge e f s a t = λ i. record { source = s i; action = a i; target = t i }

pub edges_exact : (e f : Edge) → edge_cmp e f ≡ Equal → e ≡ f
edges_exact e f tied =
    let first =
    both_tied (nat_cmp e.source f.source)
    (ordering_then (slice_cmp nat_cmp e.action f.action) (nat_cmp e.target f.target)) tied in
    let second = both_tied (slice_cmp nat_cmp e.action f.action) (nat_cmp e.target f.target) first.1 in
    same_edge e f (exact_unsigned e.source f.source first.0) (exact_bytes e.action f.action second.0)
    (exact_unsigned e.target f.target second.1)

pub target_within : (m : Structure) → IsStructure m → (e : Edge) → IsMember e m.edges → e.target < m.states
target_within m ok e inside = (All-member (λ (d : Edge). (d.source < m.states) × (d.target < m.states)) m.edges ok.joins_states e inside).1

pub source_rises : (e f : Edge) → edge_cmp e f ≡ Less → e.source ≤ f.source
source_rises e f less = go (nat_lt e.source f.source) refl (e.source == f.source) refl less
  where
    go : (b : Bool) → nat_lt e.source f.source ≡ b → (c : Bool) → (e.source == f.source) ≡ c
        → ordering_then (cond b Less (cond c Equal Greater))
        (ordering_then (slice_cmp nat_cmp e.action f.action) (nat_cmp e.target f.target)) ≡ Less
        → e.source ≤ f.source
    go true is c at below = grind (arith, nat_tests)
    go false is true at below = grind (arith, nat_tests)
    go false is false at below = absurd (cc)

-- edges from place to place ascend
module _ (edge : ℕ → Edge) (from : (i : ℕ) → (edge i).source ≡ i) where
  above_place : (a b : ℕ) → a < b → edge_cmp (edge a) (edge b) ≡ Less
  above_place a b below =
      let less : nat_cmp (edge a).source (edge b).source ≡ Less =
      sym (nat_cmp_is (edge a).source (edge b).source Less (omega (arith, below, from a, from b))) in
      ap
      (λ o. ordering_then o
      (ordering_then (slice_cmp nat_cmp (edge a).action (edge b).action) (nat_cmp (edge a).target (edge b).target)))
      less

  pub places_ascend : (a n : ℕ) → IsStrictlySortedBy edge_cmp (map edge (range_with_len a n))
  places_ascend a n = range_ascends edge_cmp edge above_place a n
