-- One vertex more is looked at.
use Rattle.std.proofs.Common.{rules, arith, ◌≡◌, ◌∙◌}
use Rattle.ml_parity.specs.Solution.{winner_at}
use Rattle.ml_parity.specs.private.SolverSteps.{place_of}
use Rattle.ml_parity.proofs.VertexOrder.{gather_less, gather_more}
use Rattle.ml_parity.proofs.zielonka.vertex_order.gather_won.Goals as goal

pub loop-at-preserved-then-eq : goal.loop-at-preserved-then-eq
loop-at-preserved-then-eq c =
    let won : winner_at c.args.winner.now c.index-vertex.result.now ≡ c.args.player =
    search (rules, c.eq.ensures, c.if-eq.true) in
    record {
      row = c.remove-rest.ensures.row;
      size = c.remove-rest.ensures.size ∙ c.loop-at.invariant.size;
      gathering = gather_more c.loop-at.row.order.items c.loop-at.row.place.items c.loop-at.invariant.row
          (place_of c.args.row.now.place.items) c.args.count c.loop-at.rest c.loop-at.at c.index-vertex.result.now
          (λ v. winner_at c.args.winner.now v ≡ c.args.player) c.loop-at.invariant.gathering c.loop-at-test.true
          (omega (arith, c.requires.fits, c.loop-at.invariant.size)) c.index-vertex.ensures
          (place_of c.remove-rest.new.row.place.items) c.remove-rest.result won c.remove-rest.ensures.removed
          c.remove-rest.ensures.count;
    }

pub loop-at-preserved : goal.loop-at-preserved
loop-at-preserved c =
    let lost : winner_at c.args.winner.now c.index-vertex.result.now ≡ c.args.player → ⊥ =
    search (rules, c.eq.ensures, c.if-eq.false) in
    record {
      row = c.loop-at.invariant.row;
      size = c.loop-at.invariant.size;
      gathering = gather_less c.loop-at.row.order.items c.loop-at.row.place.items c.loop-at.invariant.row
          (place_of c.args.row.now.place.items) c.args.count c.loop-at.rest c.loop-at.at c.index-vertex.result.now
          (λ v. winner_at c.args.winner.now v ≡ c.args.player) c.loop-at.invariant.gathering c.loop-at-test.true
          (omega (arith, c.requires.fits, c.loop-at.invariant.size)) c.index-vertex.ensures lost;
    }
