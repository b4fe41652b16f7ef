-- Zeros are low, and stay so where a vertex that the player loses gets the top.
use Rattle.std.proofs.Common.{◌∙◌, ◌≢◌, ◌<◌, arith, length, ap, subst, sym}
use Rattle.ml_parity.specs.Game.{size}
use Rattle.ml_parity.specs.Solution.{winner_at}
use Rattle.ml_progress.proofs.FirstTables.{top_keeps}
use Rattle.ml_progress.proofs.LiftedMeasures.{zeros_low}
use Rattle.ml_progress.specs.private.Lifting.{IsLow}
use Rattle.ml_progress.proofs.lifting.first_table.Goals as goal
use Rattle.ml_progress.proofs.lifting.first_table.Goals.{then-not-is_won_by, else-not-is_won_by}

pub loop-vertex-init : goal.loop-vertex-init
loop-vertex-init c =
    let wide = c.len.ensures ∙ c.args.scale.now.bounds.ok.0 in
    record {
      wide = c.in_ok-table.ensures.wide ∙ wide;
      low = zeros_low c.args.game.now c.size.ensures.game c.args.scale.now.player c.size.result c.len.result
          c.in_ok-table.table.rows c.size.ensures.vertices (wide ∙ ap length c.requires.scale.bounds_are)
          c.in_ok-table.ensures.zeros;
    }

pub raise_to_top-requires : goal.raise_to_top-requires
raise_to_top-requires c =
    omega (arith, c.loop-vertex.invariant.low.vertices, c.requires.winner.long, c.loop-vertex-test.true)

pub loop-vertex-preserved : goal.loop-vertex-preserved
loop-vertex-preserved c =
    let v = c.loop-vertex.vertex in
    let g = c.args.game.now in
    let p = c.args.scale.now.player in
    let below : v < size g = omega (arith, c.requires.winner.long, c.loop-vertex-test.true) in
    elim c.if-not-is_won_by.branch [
      | then-not-is_won_by w ↦
          let differs : winner_at c.args.winner.now v ≢ p = λ same.
          let is = c.is_won_by.ensures.1 same in let isnt = w.if-not-is_won_by.true in absurd (cc) in
          record {
            wide = ap (λ t. t.wide) w.table-is ∙ w.raise_to_top.ensures.wide ∙ c.loop-vertex.invariant.wide;
            low = subst (λ t. IsLow g p t.rows) (sym w.table-is)
                (top_keeps g c.size.ensures.game p (winner_at c.args.winner.now v) differs v below
                (c.requires.winner.right v below) c.loop-vertex.table.rows w.raise_to_top.new.self.rows
                w.raise_to_top.result c.loop-vertex.invariant.low w.raise_to_top.ensures.raised);
          }
      | else-not-is_won_by w ↦ record {
        wide = ap (λ t. t.wide) w.table-is ∙ c.loop-vertex.invariant.wide;
        low = subst (λ t. IsLow g p t.rows) (sym w.table-is) c.loop-vertex.invariant.low;
      }
    ]
