-- The vertices from `at` on are looked at.
use Rattle.std.proofs.Common.{◌≡◌, length}
use Rattle.ml_parity.specs.Solution.{winner_at}
use Rattle.ml_parity.specs.private.SolverSteps.{place_of, IsRow, IsGathering}
use Rattle.ml_parity.proofs.zielonka.vertex_order.gather_won.Given as goal

abbrev pub invariant-loop-at : goal.invariant-loop-at
invariant-loop-at l = record {
  row : IsRow l.row.order.items l.row.place.items;
  size : length l.row.place.items ≡ length l.initial.row.place.items;
  gathering : IsGathering (place_of l.initial.row.place.items) (place_of l.row.place.items) l.count l.rest l.at
      (λ v. winner_at l.winner v ≡ l.player);
}

abbrev pub decreases-loop-at : goal.decreases-loop-at
decreases-loop-at l = l.at
