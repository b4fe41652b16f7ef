-- One vertex more is looked at.
use Rattle.std.proofs.Common.{arith, ◌≡◌, ◌∙◌, sym}
use Rattle.ml_parity.specs.Game.{priority_of}
use Rattle.ml_parity.specs.private.SolverSteps.{place_of}
use Rattle.ml_parity.proofs.VertexOrder.{gather_more}
use Rattle.ml_parity.proofs.zielonka.vertex_order.gather_priority.Goals as goal

pub loop-at-preserved-then-priority_at-priority : goal.loop-at-preserved-then-priority_at-priority
loop-at-preserved-then-priority_at-priority c =
    record {
      row = c.remove-rest.ensures.row;
      size = c.remove-rest.ensures.size ∙ c.loop-at.invariant.size;
      gathering = gather_more c.loop-at.row.order.items c.loop-at.row.place.items c.loop-at.invariant.row
          (place_of c.args.row.now.place.items) c.args.count c.loop-at.rest c.loop-at.at c.index-vertex.result.now
          (λ v. priority_of c.args.game.now v ≡ c.args.priority) c.loop-at.invariant.gathering c.loop-at-test.true
          (omega (arith, c.requires.fits, c.loop-at.invariant.size)) c.index-vertex.ensures
          (place_of c.remove-rest.new.row.place.items) c.remove-rest.result
          (sym c.priority_at.ensures ∙ c.if-priority_at-priority.true) c.remove-rest.ensures.removed
          c.remove-rest.ensures.count;
    }
