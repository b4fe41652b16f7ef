-- At first the whole game is to be solved, and no frame waits.
use Rattle.std.proofs.Common.{refl, sym, subst}
use Rattle.ml_parity.specs.Solution.{choice_at, winner_at}
use Rattle.ml_parity.specs.private.SolverFrames.{IsOpen}
use Rattle.ml_parity.specs.private.SolverSteps.{place_of}
use Rattle.ml_parity.proofs.Frames.{whole_waits}
use Rattle.ml_parity.proofs.Whole.{whole_part}
use Rattle.ml_parity.proofs.zielonka.recursion.run.Goals as goal

pub loop-frames-init : goal.loop-frames-init
loop-frames-init c =
    subst (λ n. IsOpen c.args.game.now c.new-frames.result.items c.args.work.now c.args.winner.now n)
    (sym c.size.ensures.vertices) (record {
      at_part = c.requires.begins;
      waits = whole_waits c.args.game.now c.new-frames.result.items _ (place_of c.args.work.now.row.place.items)
          (winner_at c.args.winner.now) (choice_at c.args.work.now.choice.items) c.new-frames.ensures.items refl;
      part = whole_part c.args.game.now c.requires.game c.args.work.now.row.order.items c.args.work.now.row.place.items
          c.requires.begins.work.row c.requires.begins.work.vertices (winner_at c.args.winner.now);
    })
