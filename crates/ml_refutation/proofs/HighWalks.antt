-- Local walks through nodes of priority k or more are decided, and with them whether a node is on an odd cycle.
--
-- Such a walk is a way of a relation on the nodes, which is decided.
--
--   High k n m        == a local walk leads from n to m through nodes of priority k or more
--   decided_high      == whether one does is decided
--   decided_cycle     == so is whether a node is on a closed walk through nodes of no lower priority
--   decided_odd_cycle == and whether it is on an odd cycle
use Rattle.std.proofs.Common.{ℕ, zero, suc, ◌<◌, ◌≤◌, ◌%◌, min, List, subst, arith}
use Rattle.ml_lists.specs.Member.{IsMember}
use Rattle.ml_lists.specs.Reach.{Reaches}
use Rattle.ml_lists.proofs.Decided.{Decided, decided_same, decided_both, decided_less, decided_number}
use Rattle.ml_lists.proofs.DecidedReach.{first_step, no_step, Leads, decided_leads}
use Rattle.ml_lists.proofs.Deciding.{decided_at_most, decided_member, some_member, Having}
use Rattle.ml_lists.proofs.Reach.{reaches_self, reaches_step}
use Rattle.ml_graph.specs.Graph.{Graph, IsGraph, size, priority_at}
use Rattle.ml_sequent.specs.declared.choice.Side.{Side}
use Rattle.ml_sequent.specs.LocalWalk.{LocalWalk, stays, goes, children}
use Rattle.ml_sequent.specs.Spread.{OnCycle, IsOddCycle}
use Rattle.ml_sequent.proofs.LocalWalks.{walk_low}
use Rattle.ml_sequent.proofs.RankedWalks.{children_low}

module _ (g : Graph) (c : List (ℕ × Side)) where
  -- a walk through nodes of priority k or more
  pub record High (k n m : ℕ) : Type 0 where
    pub lowest : ℕ
    pub walk : LocalWalk g c n lowest m
    pub high : k ≤ lowest

  -- one move of it
  abbrev Move : ℕ → ℕ → ℕ → Type 0
  Move k n m = (n < size g) × (IsMember m (children g c n) × (k ≤ priority_at g m))

  module _ (ok : IsGraph g) where
    high_leads : (k n j m : ℕ) → n < size g → k ≤ j → LocalWalk g c n j m → Leads (Move k) n m
    high_leads k n j m low high (stays _) = record { steps = 0; reaches = reaches_self (Move k) n }
    high_leads k n j m low high (goes {k = i} _ next child w) =
        let first = walk_low g c next i m w in
        let l = high_leads k next i m (children_low g c ok n next low child) (omega arith) w in
        let move : Move k n next = (low, (child, omega arith)) in
        record { steps = suc l.steps; reaches = reaches_step (Move k) n next m l.steps move l.reaches }

    leads_high : (k s n m : ℕ) → k ≤ priority_at g n → Reaches (Move k) n m s → High k n m
    leads_high k zero n m high r =
        subst (High k n) (no_step (Move k) n m r) (record { lowest = priority_at g n; walk = stays n; high = high })
    leads_high k (suc s) n m high r =
        let first = first_step (Move k) n m s r in
        let rest = leads_high k s first.next m first.step.1.1 first.rest in
        record {
          lowest = min (priority_at g n) rest.lowest;
          walk = goes n first.next first.step.1.0 rest.walk;
          high = omega (arith, rest.high);
        }

    move_low : (k n m : ℕ) → Move k n m → m < size g
    move_low k n m move = children_low g c ok n m move.0 move.1.0

    decided_move : (k n m : ℕ) → Decided (Move k n m)
    decided_move k n m =
        decided_both (decided_less n (size g))
        (decided_both (decided_member decided_number m (children g c n)) (decided_at_most k (priority_at g m)))

    pub decided_high : (k n m : ℕ) → n < size g → Decided (High k n m)
    decided_high k n m low =
        decided_same
        (λ (both : (k ≤ priority_at g n) × Leads (Move k) n m).
        leads_high k both.1.steps n m both.0 both.1.reaches)
        (λ h.
        let first = walk_low g c n h.lowest m h.walk in
        (omega (arith, h.high), high_leads k n h.lowest m low h.high h.walk))
        (decided_both (decided_at_most k (priority_at g n))
        (decided_leads (Move k) (size g) (move_low k) (decided_move k) n m low))

    pub decided_cycle : (n : ℕ) → n < size g → Decided (OnCycle g c n)
    decided_cycle n low =
        decided_same
        (λ (h : Having (λ next. High (priority_at g n) next n) (children g c n)).
        record { next = h.item; child = h.member; lowest = h.holds.lowest; walk = h.holds.walk; high = h.holds.high })
        (λ o.
        let high : High (priority_at g n) o.next n = record { lowest = o.lowest; walk = o.walk; high = o.high } in
        record { item = o.next; member = o.child; holds = high })
        (some_member (λ next. High (priority_at g n) next n) (children g c n)
        (λ next h. decided_high (priority_at g n) next n (children_low g c ok n next low h)))

    pub decided_odd_cycle : (n : ℕ) → n < size g → Decided (IsOddCycle g c n)
    decided_odd_cycle n low = decided_both (decided_number (priority_at g n % 2) 1) (decided_cycle n low)
