-- What a search from a sequent found is its spread.
--
--   spread_found == the nodes of the places that were found, ascending, are the spread
use Rattle.std.proofs.Common.{ℕ, ◌≡◌, ◌<◌, min, List, map, get_or, All, sym, subst, arith}
use Rattle.ml_lists.specs.Ascending.{IsAscending, ascending}
use Rattle.ml_lists.specs.Member.{IsMember}
use Rattle.ml_lists.proofs.Ascending.{ascending-is, ascending-member, member-ascending}
use Rattle.ml_lists.proofs.Member.{Image, member-map, member-map_from, All-member}
use Rattle.ml_graph.specs.Graph.{Graph, IsGraph, size}
use Rattle.ml_sequent.specs.declared.choice.Side.{Side}
use Rattle.ml_sequent.specs.declared.reach.Visit.{Visit}
use Rattle.ml_sequent.specs.LocalWalk.{InSpread}
use Rattle.ml_sequent.specs.Spread.{SpreadList, IsSpreadOf}
use Rattle.ml_sequent.specs.private.Reach.{Leads, IsReached, onward, unranked, LevelList, IsRanked, HasReached}
use Rattle.ml_sequent.proofs.RankedWalks.{traced, ranked, spread_low}

module _ (g : Graph) (c : List (ℕ × Side)) (levels : LevelList) (ok : IsGraph g) (is : IsRanked g levels) (C : List ℕ)
    (C_low : All (λ n. n < size g) C) (found : List Visit)
    (has : HasReached (onward g c levels.ranks) (map unranked C) found) where
  in_spread : (m : ℕ) → Image (λ (v : Visit). v.node) m found → InSpread g c C m
  in_spread m i = of_reached ((has i.from).0 i.member)
    where
      of_start : (r : IsReached (onward g c levels.ranks) (map unranked C) i.from)
          → Image unranked r.from C
          → InSpread g c C m
      of_start r j =
          let low = All-member (λ n. n < size g) C C_low j.from j.member in
          let t = traced g c levels ok is (unranked j.from) i.from low (omega arith)
          (subst (λ u. Leads (onward g c levels.ranks) u i.from) j.holds r.way) in
          subst (InSpread g c C) (sym i.holds)
          (record { from = j.from; member = j.member; lowest = get_or levels.priorities t.rank 0; walk = t.walk })

      of_reached : IsReached (onward g c levels.ranks) (map unranked C) i.from → InSpread g c C m
      of_reached r = of_start r (member-map_from unranked r.from C r.member)

  was_found : (m : ℕ) → InSpread g c C m → IsMember m (map (λ (v : Visit). v.node) found)
  was_found m s =
      let low = All-member (λ n. n < size g) C C_low s.from s.member in
      let r = ranked g c levels ok is s.from s.lowest m low s.walk in
      let v : Visit = record { node = m; rank = min 0 r.rank } in
      member-map (λ (w : Visit). w.node) v found
      ((has v).1 (record {
        from = unranked s.from;
        member = member-map unranked s.from C s.member;
        way = r.way 0 (omega arith);
      }))

  -- the nodes of the places that were found, ascending, are the spread
  pub spread_found : (sp : SpreadList)
      → sp.nodes ≡ ascending (map (λ (v : Visit). v.node) found)
      → sp.choice ≡ c
      → IsSpreadOf g C c sp
  spread_found sp nodes choice = record {
    choice = choice;
    ascends = subst IsAscending (sym nodes) (ascending-is (map (λ (v : Visit). v.node) found));
    low = λ m h. spread_low g ok C C_low c m (of_member m h);
    nodes = λ m. (
      of_member m,
      λ s. subst (IsMember m) (sym nodes)
          (member-ascending m (map (λ (v : Visit). v.node) found) (was_found m s)),
    );
  }
    where
      of_member : (m : ℕ) → IsMember m sp.nodes → InSpread g c C m
      of_member m h =
          in_spread m (member-map_from (λ (v : Visit). v.node) m found
          (ascending-member m (map (λ (v : Visit). v.node) found) (subst (IsMember m) nodes h)))
