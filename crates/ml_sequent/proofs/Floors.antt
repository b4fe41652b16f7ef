-- Searches with a floor, and closed local walks.
--
--   above_in, above_out == a place that is not below the floor, and one that is
--   above_two       == two places, part by part
--   all_above       == a search with the floor 0 goes on everywhere
--   way_onward, way_above == a way above the floor is a way; a way whose end is not below the floor is one above it
--   on_cycle        == a search behind a node that comes back to it, and the other way round
use Rattle.std.proofs.Common.{ℕ, ◌≡◌, ◌<◌, ◌≤◌, ◌↔◌, min, true, nat_le, List, [], ◌∷◌, ◌++◌, get_or, refl, sym, ap, ◌∙◌, subst, arith}
use Rattle.std.proofs.lemmas.Bool.{cond-true, cond-false, lt-leb, leb-true}
use Rattle.std.proofs.lemmas.Bool.Decides.{nat_tests}
use Rattle.std.proofs.lemmas.List.Elements.{filter-append}
use Rattle.ml_lists.specs.Member.{IsMember}
use Rattle.ml_lists.proofs.Member.{Image, member-filter, member-filter_from, member-map, member-map_from}
use Rattle.ml_graph.specs.Graph.{Graph, IsGraph, size}
use Rattle.ml_sequent.specs.declared.choice.Side.{Side}
use Rattle.ml_sequent.specs.declared.reach.Visit.{Visit}
use Rattle.ml_sequent.specs.LocalWalk.{children}
use Rattle.ml_sequent.specs.Spread.{OnCycle}
use Rattle.ml_sequent.specs.private.Reach.{Leads, ends, moves, IsReached, onto, onward, above, behind, ranked, LevelList, IsRanked, HasReached}
use Rattle.ml_sequent.proofs.LocalWalks.{walk_low}
use Rattle.ml_sequent.proofs.RankedWalks as walks
use Rattle.ml_sequent.proofs.RankedWalks.{children_low, no_later, level_order}

le_test : (a b : ℕ) → a ≤ b → nat_le a b ≡ true
le_test a b h = grind (arith, nat_tests)

-- a place that is not below the floor
pub above_in : (floor : ℕ) (v : Visit) → floor ≤ v.rank → above floor (v ∷ []) ≡ v ∷ []
above_in floor v h = cond-true (nat_le floor v.rank) (v ∷ []) [] (le_test floor v.rank h)

-- and one that is
pub above_out : (floor : ℕ) (v : Visit) → v.rank < floor → above floor (v ∷ []) ≡ []
above_out floor v h = cond-false (nat_le floor v.rank) (v ∷ []) [] (lt-leb floor v.rank h)

-- two places, part by part
pub above_two : (floor : ℕ) (v w : Visit) → above floor (v ∷ w ∷ []) ≡ above floor (v ∷ []) ++ above floor (w ∷ [])
above_two floor v w = filter-append (λ (u : Visit). nat_le floor u.rank) (v ∷ []) (w ∷ [])

none_left_out : (vs : List Visit) → above 0 vs ≡ vs
none_left_out [] = refl
none_left_out (v ∷ vs) =
    cond-true (nat_le 0 v.rank) (v ∷ above 0 vs) (above 0 vs) (le_test 0 v.rank (omega arith))
    ∙ ap (λ xs. v ∷ xs) (none_left_out vs)

-- a search with the floor 0 goes on everywhere
pub all_above : (g : Graph) (c : List (ℕ × Side)) (ranks : List ℕ) → behind g c ranks 0 ≡ onward g c ranks
all_above g c ranks = λ i v. none_left_out (onward g c ranks v) i

module _ (g : Graph) (c : List (ℕ × Side)) (ranks : List ℕ) (floor : ℕ) where
  -- a way above the floor is a way
  pub way_onward : (v w : Visit) → Leads (behind g c ranks floor) v w → Leads (onward g c ranks) v w
  way_onward v w (ends _) = ends v
  way_onward v w (moves _ u h way) =
      moves v u (member-filter_from (λ (x : Visit). nat_le floor x.rank) u (onward g c ranks v) h).0
      (way_onward u w way)

  -- ranks fall along a way
  pub way_falls : (v w : Visit) → Leads (onward g c ranks) v w → w.rank ≤ v.rank
  way_falls v w (ends _) = omega arith
  way_falls v w (moves _ u h way) =
      from (member-map_from (onto ranks v.rank) u (children g c v.node) h) (way_falls u w way)
    where
      from : Image (onto ranks v.rank) u (children g c v.node) → w.rank ≤ u.rank → w.rank ≤ v.rank
      from i below = let rank_is : u.rank ≡ min v.rank (get_or ranks i.from 0) = ap (λ (x : Visit). x.rank) i.holds in
          omega arith

  -- a way whose end is not below the floor is one above it
  pub way_above : (v w : Visit) → floor ≤ w.rank → Leads (onward g c ranks) v w → Leads (behind g c ranks floor) v w
  way_above v w high (ends _) = ends v
  way_above v w high (moves _ u h way) =
      let below = way_falls u w way in
      moves v u
      (member-filter (λ (x : Visit). nat_le floor x.rank) u (onward g c ranks v) h (le_test floor u.rank (omega arith)))
      (way_above u w high way)

-- a search behind a node that comes back to it shows that it is on a cycle, and the other way round
pub on_cycle : (g : Graph) (c : List (ℕ × Side)) (levels : LevelList)
    → IsGraph g
    → IsRanked g levels
    → (n : ℕ) (found : List Visit)
    → n < size g
    → HasReached (behind g c levels.ranks (get_or levels.ranks n 0))
    (behind g c levels.ranks (get_or levels.ranks n 0) (ranked levels.ranks n)) found
    → IsMember (ranked levels.ranks n) found ↔ OnCycle g c n
on_cycle g c levels ok is n found low has = (
  (λ h. of_reached ((has (ranked levels.ranks n)).0 h)),
  (λ o. (has (ranked levels.ranks n)).1
      (of_cycle o (walks.ranked g c levels ok is o.next o.lowest n (children_low g c ok n o.next low o.child) o.walk))),
)
  where
    of_child :
        (r : IsReached (behind g c levels.ranks (get_or levels.ranks n 0))
        (behind g c levels.ranks (get_or levels.ranks n 0) (ranked levels.ranks n)) (ranked levels.ranks n))
        → get_or levels.ranks n 0 ≤ r.from.rank
        → Image (onto levels.ranks (get_or levels.ranks n 0)) r.from (children g c n)
        → OnCycle g c n
    of_child r high i =
        let node_is : r.from.node ≡ i.from = ap (λ (x : Visit). x.node) i.holds in
        let rank_is : r.from.rank ≡ min (get_or levels.ranks n 0) (get_or levels.ranks i.from 0) =
        ap (λ (x : Visit). x.rank) i.holds in
        let child : IsMember r.from.node (children g c n) =
        subst (λ k. IsMember k (children g c n)) (sym node_is) i.member in
        let ranks_are : get_or levels.ranks r.from.node 0 ≡ get_or levels.ranks i.from 0 =
        ap (λ k. get_or levels.ranks k 0) node_is in
        let t =
        walks.traced g c levels ok is r.from (ranked levels.ranks n) (children_low g c ok n r.from.node low child)
        (omega arith) (way_onward g c levels.ranks (get_or levels.ranks n 0) r.from (ranked levels.ranks n) r.way)
        in
        let order =
        no_later levels.priorities (get_or levels.ranks n 0) t.rank is.ascends (omega (arith, t.holds)) t.low in
        record {
          next = r.from.node;
          child = child;
          lowest = get_or levels.priorities t.rank 0;
          walk = t.walk;
          high = omega (arith, is.right n low);
        }

    of_reached : IsReached (behind g c levels.ranks (get_or levels.ranks n 0))
        (behind g c levels.ranks (get_or levels.ranks n 0) (ranked levels.ranks n)) (ranked levels.ranks n)
        → OnCycle g c n
    of_reached r =
        let kept =
        member-filter_from (λ (x : Visit). nat_le (get_or levels.ranks n 0) x.rank) r.from
        (onward g c levels.ranks (ranked levels.ranks n)) r.member
        in
        of_child r (leb-true (get_or levels.ranks n 0) r.from.rank kept.1)
        (member-map_from (onto levels.ranks (get_or levels.ranks n 0)) r.from (children g c n) kept.0)

    of_cycle : (o : OnCycle g c n) → walks.Ranked g c levels ok is o.next o.lowest n
        → IsReached (behind g c levels.ranks (get_or levels.ranks n 0))
        (behind g c levels.ranks (get_or levels.ranks n 0) (ranked levels.ranks n)) (ranked levels.ranks n)
    of_cycle o r =
        let floor = get_or levels.ranks n 0 in
        let next_low = children_low g c ok n o.next low o.child in
        let below = walk_low g c o.next o.lowest n o.walk in
        let up =
        level_order levels.priorities floor (get_or levels.ranks o.next 0) is.ascends (is.low n low)
        (is.low o.next next_low) (omega (arith, is.right n low, is.right o.next next_low, o.high))
        in
        let high =
        level_order levels.priorities floor r.rank is.ascends (is.low n low) r.low
        (omega (arith, is.right n low, r.holds, o.high)) in
        let start : Visit = onto levels.ranks floor o.next in
        let same : min (min floor (get_or levels.ranks o.next 0)) r.rank ≡ floor = omega arith in
        let way =
        subst (λ q. Leads (onward g c levels.ranks) start (record { node = n; rank = q })) same
        (r.way (min floor (get_or levels.ranks o.next 0)) (omega arith))
        in
        record {
          from = start;
          member =
              member-filter (λ (x : Visit). nat_le floor x.rank) start (onward g c levels.ranks (ranked levels.ranks n))
              (member-map (onto levels.ranks floor) o.next (children g c n) o.child)
              (le_test floor start.rank (omega arith));
          way = way_above g c levels.ranks floor start (ranked levels.ranks n) (omega arith) way;
        }
