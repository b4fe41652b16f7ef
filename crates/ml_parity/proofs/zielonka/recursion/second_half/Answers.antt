-- The steps make the second half, where the opponent won something.
use Rattle.std.proofs.Common.{arith, ◌≡◌, subst}
use Rattle.ml_parity.specs.declared.players.Player.{Player}
use Rattle.ml_parity.specs.Player.{opponent}
use Rattle.ml_parity.specs.private.Parts.{Gathers, IsAttracted}
use Rattle.ml_parity.specs.Solution.{choice_at, winner_at}
use Rattle.ml_parity.specs.private.SinkGame.{board_of}
use Rattle.ml_parity.specs.private.SolverSteps.{Gives, place_of, number_at}
use Rattle.ml_parity.proofs.Halves.{firm}
use Rattle.ml_parity.proofs.Turns.{gathers_left, gathers_part, none_lost, second_made, second_kept}
use Rattle.ml_parity.proofs.zielonka.recursion.second_half.Goals as goal

pub returns-then-seeded-count-clause-half : goal.returns-then-seeded-count-clause-half
returns-then-seeded-count-clause-half c =
    let gathers : Gathers (place_of c.args.work.now.row.place.items) (place_of c.gather_won-seeded.new.row.place.items)
    c.args.count c.gather_won-seeded.result (λ v. winner_at c.args.winner.now v ≡ opponent c.args.player) =
    subst (λ (q : Player). Gathers (place_of c.args.work.now.row.place.items)
    (place_of c.gather_won-seeded.new.row.place.items) c.args.count c.gather_won-seeded.result
    (λ v. winner_at c.args.winner.now v ≡ q)) c.opponent-opponent.ensures c.gather_won-seeded.ensures.gathers in
    record {
      counted = gathers_left (place_of c.args.work.now.row.place.items)
          (place_of c.gather_won-seeded.new.row.place.items) c.args.count c.gather_won-seeded.result
          (λ v. winner_at c.args.winner.now v ≡ opponent c.args.player) gathers c.args.game.now
          (number_at c.args.work.now.left.items) c.requires.at_part.counted;
      solves = none_lost (board_of c.args.game.now) (place_of c.args.work.now.row.place.items)
          (place_of c.gather_won-seeded.new.row.place.items) c.args.count c.requires.half.mid c.requires.half.rest
          c.gather_won-seeded.result c.args.player (winner_at c.args.winner.now)
          (choice_at c.args.work.now.choice.items) c.requires.half.half c.requires.half.solves gathers
          c.if-seeded-count.true;
    }

pub attract-rest-requires-clause-counts : goal.attract-rest-requires-clause-counts
attract-rest-requires-clause-counts c =
    gathers_left (place_of c.args.work.now.row.place.items) (place_of c.gather_won-seeded.new.row.place.items)
    c.args.count c.gather_won-seeded.result _ c.gather_won-seeded.ensures.gathers c.args.game.now
    (number_at c.args.work.now.left.items) c.requires.at_part.counted

pub returns-clause-half : goal.returns-clause-half
returns-clause-half c =
    let gathers : Gathers (place_of c.args.work.now.row.place.items) (place_of c.gather_won-seeded.new.row.place.items)
    c.args.count c.gather_won-seeded.result (λ v. winner_at c.args.winner.now v ≡ opponent c.args.player) =
    subst (λ (q : Player). Gathers (place_of c.args.work.now.row.place.items)
    (place_of c.gather_won-seeded.new.row.place.items) c.args.count c.gather_won-seeded.result
    (λ v. winner_at c.args.winner.now v ≡ q)) c.opponent-opponent.ensures c.gather_won-seeded.ensures.gathers in
    let attracted = subst (λ (q : Player).
    IsAttracted (board_of c.args.game.now) (place_of c.attract-rest.new.work.row.place.items) c.args.count
    c.gather_won-seeded.result c.attract-rest.result q (choice_at c.attract-rest.new.work.choice.items))
    c.opponent-opponent.ensures (c.attract-rest.ensures.attracted (winner_at c.args.winner.now)
    (gathers_part (place_of c.args.work.now.row.place.items) (place_of c.gather_won-seeded.new.row.place.items)
    c.args.count c.gather_won-seeded.result (λ v. winner_at c.args.winner.now v ≡ opponent c.args.player) gathers
    (board_of c.args.game.now) (winner_at c.args.winner.now) c.requires.half.half.is_part)) in
    let gives = subst (λ (q : Player).
    Gives (place_of c.attract-rest.new.work.row.place.items) c.args.count c.attract-rest.result q
    (winner_at c.args.winner.now) (winner_at c.give.new.winner)) c.opponent-opponent.ensures c.give.ensures in
    record {
      smaller = omega (arith, c.attract-rest.ensures.low, gathers.fits, c.if-seeded-count.false);
      counted = c.attract-rest.ensures.counts;
      mid = c.gather_won-seeded.result;
      half = second_made (board_of c.args.game.now) (place_of c.args.work.now.row.place.items)
          (place_of c.gather_won-seeded.new.row.place.items) (place_of c.attract-rest.new.work.row.place.items)
          c.args.count c.gather_won-seeded.result c.attract-rest.result (opponent c.args.player)
          (winner_at c.args.winner.now) (winner_at c.give.new.winner) (choice_at c.args.work.now.choice.items)
          (choice_at c.attract-rest.new.work.choice.items) (λ v. winner_at c.args.winner.now v ≡ opponent c.args.player)
          c.requires.half.half.is_part gathers (firm (board_of c.args.game.now)
          (place_of c.args.work.now.row.place.items) c.args.count c.requires.half.mid c.requires.half.rest c.args.player
          (winner_at c.args.winner.now) (choice_at c.args.work.now.choice.items)
          (place_of c.gather_won-seeded.new.row.place.items) c.gather_won-seeded.result c.requires.half.half
          c.requires.half.solves gathers) gathers.passes (c.attract-rest.ensures.kept (winner_at c.args.winner.now))
          attracted gives;
    }

pub returns-clause-kept : goal.returns-clause-kept
returns-clause-kept c =
    let gathers : Gathers (place_of c.args.work.now.row.place.items) (place_of c.gather_won-seeded.new.row.place.items)
    c.args.count c.gather_won-seeded.result (λ v. winner_at c.args.winner.now v ≡ opponent c.args.player) =
    subst (λ (q : Player). Gathers (place_of c.args.work.now.row.place.items)
    (place_of c.gather_won-seeded.new.row.place.items) c.args.count c.gather_won-seeded.result
    (λ v. winner_at c.args.winner.now v ≡ q)) c.opponent-opponent.ensures c.gather_won-seeded.ensures.gathers in
    let attracted = subst (λ (q : Player).
    IsAttracted (board_of c.args.game.now) (place_of c.attract-rest.new.work.row.place.items) c.args.count
    c.gather_won-seeded.result c.attract-rest.result q (choice_at c.attract-rest.new.work.choice.items))
    c.opponent-opponent.ensures (c.attract-rest.ensures.attracted (winner_at c.args.winner.now)
    (gathers_part (place_of c.args.work.now.row.place.items) (place_of c.gather_won-seeded.new.row.place.items)
    c.args.count c.gather_won-seeded.result (λ v. winner_at c.args.winner.now v ≡ opponent c.args.player) gathers
    (board_of c.args.game.now) (winner_at c.args.winner.now) c.requires.half.half.is_part)) in
    let gives = subst (λ (q : Player).
    Gives (place_of c.attract-rest.new.work.row.place.items) c.args.count c.attract-rest.result q
    (winner_at c.args.winner.now) (winner_at c.give.new.winner)) c.opponent-opponent.ensures c.give.ensures in
    second_kept (board_of c.args.game.now) (place_of c.args.work.now.row.place.items)
    (place_of c.gather_won-seeded.new.row.place.items) (place_of c.attract-rest.new.work.row.place.items)
    c.args.count c.gather_won-seeded.result c.attract-rest.result (opponent c.args.player)
    (winner_at c.args.winner.now) (winner_at c.give.new.winner) (choice_at c.args.work.now.choice.items)
    (choice_at c.attract-rest.new.work.choice.items) (λ v. winner_at c.args.winner.now v ≡ opponent c.args.player)
    c.requires.half.half.is_part gathers (firm (board_of c.args.game.now) (place_of c.args.work.now.row.place.items)
    c.args.count c.requires.half.mid c.requires.half.rest c.args.player (winner_at c.args.winner.now)
    (choice_at c.args.work.now.choice.items) (place_of c.gather_won-seeded.new.row.place.items)
    c.gather_won-seeded.result c.requires.half.half c.requires.half.solves gathers) gathers.passes
    (c.attract-rest.ensures.kept (winner_at c.args.winner.now)) attracted gives
