-- The frame on top is at the end of a half.
use Rattle.std.proofs.Common.{arith, ℕ, List, ap, length, reverse, subst, sym, ◌≡◌, ◌∙◌, []}
use Rattle.std.proofs.lemmas.List.{nil_from_length}
use Rattle.ml_parity.specs.Solution.{choice_at, winner_at}
use Rattle.ml_parity.specs.private.SolverSteps.{place_of, number_at, IsLeft}
use Rattle.ml_parity.specs.Player.{opponent}
use Rattle.ml_parity.proofs.Frames.{popped, waits_low, waits_kept, frame_low, first_ends, none_waits, second_ends, second_opens, second_falls}
use Rattle.ml_parity.proofs.HeightRaises.{written}
use Rattle.ml_parity.proofs.Whole.{whole_solved}
use Rattle.ml_parity.proofs.zielonka.recursion.close_part.Goals as goal

pub restore-requires-clause-fits : goal.restore-requires-clause-fits
restore-requires-clause-fits c =
    let p = popped c.args.game.now c.args.frames.now.items c.pop.new.self.items c.in-Some.frame c.args.rest
    (place_of c.args.work.now.row.place.items) (winner_at c.args.winner.now)
    (choice_at c.args.work.now.choice.items) c.in-Some.ensures.items c.requires.solved.waits in
    waits_low c.args.game.now (place_of c.args.work.now.row.place.items) (winner_at c.args.winner.now)
    (choice_at c.args.work.now.choice.items) (reverse c.pop.new.self.items) c.in-Some.frame.count p.1

pub restore-requires-clause-low : goal.restore-requires-clause-low
restore-requires-clause-low c =
    let p = popped c.args.game.now c.args.frames.now.items c.pop.new.self.items c.in-Some.frame c.args.rest
    (place_of c.args.work.now.row.place.items) (winner_at c.args.winner.now)
    (choice_at c.args.work.now.choice.items) c.in-Some.ensures.items c.requires.solved.waits in
    frame_low c.args.game.now c.in-Some.frame c.args.rest (place_of c.args.work.now.row.place.items)
    (winner_at c.args.winner.now) (choice_at c.args.work.now.choice.items) p.0

pub second_half-requires-clause-fits : goal.second_half-requires-clause-fits
second_half-requires-clause-fits c =
    let p = popped c.args.game.now c.args.frames.now.items c.pop.new.self.items c.in-Some.frame c.args.rest
    (place_of c.args.work.now.row.place.items) (winner_at c.args.winner.now)
    (choice_at c.args.work.now.choice.items) c.in-Some.ensures.items c.requires.solved.waits in
    waits_low c.args.game.now (place_of c.args.work.now.row.place.items) (winner_at c.args.winner.now)
    (choice_at c.args.work.now.choice.items) (reverse c.pop.new.self.items) c.in-Some.frame.count p.1

pub restore-requires-clause-lefts : goal.restore-requires-clause-lefts
restore-requires-clause-lefts c =
    subst (λ (xs : List ℕ). IsLeft c.args.game.now (place_of c.args.work.now.row.place.items) c.args.rest
    (number_at xs)) (sym c.deref_mut.ensures.value) c.requires.solved.at_part.counted

pub second_half-requires-clause-at_part : goal.second_half-requires-clause-at_part
second_half-requires-clause-at_part c =
    let long : c.args.work.now.left.len ≡ length c.restore.new.left = c.args.work.now.left.ok.0
    ∙ sym (ap length c.deref_mut.ensures.value) ∙ sym c.restore.auto.left in
    let read = written c.args.work.now.left.len c.restore.new.left _ long in
    record {
      work = record {
        row = c.requires.solved.at_part.work.row;
        vertices = c.requires.solved.at_part.work.vertices;
        counts = ap length read ∙ sym long ∙ c.args.work.now.left.ok.0 ∙ c.requires.solved.at_part.work.counts;
        chosen = c.requires.solved.at_part.work.chosen;
      };
      counted = subst (λ (xs : List ℕ).
          IsLeft c.args.game.now (place_of c.args.work.now.row.place.items) c.in-Some.frame.count (number_at xs))
          (sym read) c.restore.ensures;
    }

pub second_half-requires-clause-half : goal.second_half-requires-clause-half
second_half-requires-clause-half c =
    let p = popped c.args.game.now c.args.frames.now.items c.pop.new.self.items c.in-Some.frame c.args.rest
    (place_of c.args.work.now.row.place.items) (winner_at c.args.winner.now)
    (choice_at c.args.work.now.choice.items) c.in-Some.ensures.items c.requires.solved.waits in
    first_ends c.args.game.now c.in-Some.frame c.args.rest (place_of c.args.work.now.row.place.items)
    (winner_at c.args.winner.now) (choice_at c.args.work.now.choice.items) c.in-First.is p.0
    c.requires.solved.solves

pub returns-in-Second-clause-holds : goal.returns-in-Second-clause-holds
returns-in-Second-clause-holds c =
    let long : c.args.work.now.left.len ≡ length c.restore.new.left = c.args.work.now.left.ok.0
    ∙ sym (ap length c.deref_mut.ensures.value) ∙ sym c.restore.auto.left in
    let read = written c.args.work.now.left.len c.restore.new.left _ long in
    let p = popped c.args.game.now c.args.frames.now.items c.pop.new.self.items c.in-Some.frame c.args.rest
    (place_of c.args.work.now.row.place.items) (winner_at c.args.winner.now)
    (choice_at c.args.work.now.choice.items) c.in-Some.ensures.items c.requires.solved.waits in
    record {
      at_part = record {
        work = record {
          row = c.requires.solved.at_part.work.row;
          vertices = c.requires.solved.at_part.work.vertices;
          counts = ap length read ∙ sym long ∙ c.args.work.now.left.ok.0 ∙ c.requires.solved.at_part.work.counts;
          chosen = c.requires.solved.at_part.work.chosen;
        };
        counted = subst (λ (xs : List ℕ).
            IsLeft c.args.game.now (place_of c.args.work.now.row.place.items) c.in-Some.frame.count (number_at xs))
            (sym read) c.restore.ensures;
      };
      waits = p.1;
      solves = second_ends c.args.game.now c.in-Some.frame c.args.rest (place_of c.args.work.now.row.place.items)
          (winner_at c.args.winner.now) (choice_at c.args.work.now.choice.items) c.in-Second.is p.0
          c.requires.solved.solves;
    }

pub returns-in-None-clause-holds : goal.returns-in-None-clause-holds
returns-in-None-clause-holds c =
    let p = popped c.args.game.now c.args.frames.now.items c.pop.new.self.items c.in-Some.frame c.args.rest
    (place_of c.args.work.now.row.place.items) (winner_at c.args.winner.now)
    (choice_at c.args.work.now.choice.items) c.in-Some.ensures.items c.requires.solved.waits in
    record {
      at_part = record {
        work = c.second_half.ensures.work;
        counted = c.in-None.ensures.half.counted;
      };
      waits = waits_kept c.args.game.now (place_of c.args.work.now.row.place.items)
          (place_of c.second_half.new.work.row.place.items) (winner_at c.args.winner.now)
          (winner_at c.second_half.new.winner) (choice_at c.args.work.now.choice.items)
          (choice_at c.second_half.new.work.choice.items) (reverse c.pop.new.self.items) c.in-Some.frame.count
          c.second_half.ensures.kept p.1;
      solves = c.in-None.ensures.half.solves;
    }

pub returns-in_ok-push-in-Some-second_half-clause-holds : goal.returns-in_ok-push-in-Some-second_half-clause-holds
returns-in_ok-push-in-Some-second_half-clause-holds c =
    let p = popped c.args.game.now c.args.frames.now.items c.pop.new.self.items c.in-Some.frame c.args.rest
    (place_of c.args.work.now.row.place.items) (winner_at c.args.winner.now)
    (choice_at c.args.work.now.choice.items) c.in-Some.ensures.items c.requires.solved.waits in
    let opens = second_opens c.args.game.now c.pop.new.self.items c.push.new.self.items c.in-Some.frame.count
    c.in-Some-second_half.rest c.opponent.result (opponent c.in-Some.frame.player)
    (place_of c.args.work.now.row.place.items) (place_of c.second_half.new.work.row.place.items)
    (number_at c.second_half.new.work.left.items) (winner_at c.args.winner.now) (winner_at c.second_half.new.winner)
    (choice_at c.args.work.now.choice.items) (choice_at c.second_half.new.work.choice.items)
    c.in_ok-push-in-Some-second_half.ensures.items c.opponent.ensures p.1 c.second_half.ensures.kept
    c.in-Some-second_half.ensures.half in
    record {
      at_part = record {
        work = c.second_half.ensures.work;
        counted = c.in-Some-second_half.ensures.half.counted;
      };
      waits = opens.0;
      part = opens.1;
    }

pub returns-in_ok-push-in-Some-second_half-clause-falls : goal.returns-in_ok-push-in-Some-second_half-clause-falls
returns-in_ok-push-in-Some-second_half-clause-falls c =
    second_falls c.args.frames.now.items c.pop.new.self.items c.push.new.self.items c.in-Some.frame c.opponent.result
    c.in-Some-second_half.rest c.in-First.is c.in-Some-second_half.ensures.half.smaller c.in-Some.ensures.items
    c.in_ok-push-in-Some-second_half.ensures.items

pub returns-in_default-clause-holds : goal.returns-in_default-clause-holds
returns-in_default-clause-holds c =
    let empty : c.args.frames.now.items ≡ [] =
    nil_from_length c.args.frames.now.items (omega (arith, c.in_default.ensures.cases.0, c.args.frames.now.ok.0)) in
    whole_solved c.args.game.now c.args.work.now c.args.winner.now c.args.rest
    (none_waits c.args.game.now c.args.frames.now.items c.args.rest (place_of c.args.work.now.row.place.items)
    (winner_at c.args.winner.now) (choice_at c.args.work.now.choice.items) empty c.requires.solved.waits)
    c.requires.solved.at_part c.requires.solved.solves
