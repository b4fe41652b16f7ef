-- The first half begins, and waits on top.
use Rattle.std.proofs.Common.{reverse}
use Rattle.ml_parity.specs.Solution.{choice_at, winner_at}
use Rattle.ml_parity.specs.private.SolverSteps.{place_of, number_at}
use Rattle.ml_parity.proofs.Frames.{waits_low, first_opens, first_falls}
use Rattle.ml_parity.proofs.zielonka.recursion.open_part.Goals as goal

pub first_half-player-requires-clause-fits : goal.first_half-player-requires-clause-fits
first_half-player-requires-clause-fits c =
    waits_low c.args.game.now (place_of c.args.work.now.row.place.items) (winner_at c.args.winner.now)
    (choice_at c.args.work.now.choice.items) (reverse c.args.frames.now.items) c.args.count c.requires.opened.waits

pub returns-clause-holds : goal.returns-clause-holds
returns-clause-holds c =
    let opens = first_opens c.args.game.now c.args.frames.now.items c.push.new.self.items c.args.count
    c.first_half-player.result.1 c.first_half-player.result.0 (place_of c.args.work.now.row.place.items)
    (place_of c.first_half-player.new.work.row.place.items) (number_at c.first_half-player.new.work.left.items)
    (winner_at c.args.winner.now) (winner_at c.first_half-player.new.winner)
    (choice_at c.args.work.now.choice.items) (choice_at c.first_half-player.new.work.choice.items)
    c.in_ok-push.ensures.items c.requires.opened.waits c.first_half-player.ensures.kept
    c.first_half-player.ensures.half in
    record {
      at_part = record {
        work = c.first_half-player.ensures.work;
        counted = c.first_half-player.ensures.half.counted;
      };
      waits = opens.0;
      part = opens.1;
    }

pub returns-clause-falls : goal.returns-clause-falls
returns-clause-falls c = first_falls c.args.frames.now.items c.push.new.self.items c.first_half-player.result.0
    c.first_half-player.result.1 c.args.count c.first_half-player.ensures.half.smaller c.in_ok-push.ensures.items
