-- The steps make the first half.
use Rattle.std.proofs.Common.{arith, ℕ, List, ◌≡◌, ◌∙◌, ap, length, subst, sym}
use Rattle.ml_parity.specs.private.Parts.{KeepsBehind}
use Rattle.ml_parity.specs.Solution.{choice_at, winner_at}
use Rattle.ml_parity.specs.private.SinkGame.{board_of}
use Rattle.ml_parity.specs.private.SolverSteps.{place_of, number_at, ChoosesInside}
use Rattle.ml_parity.proofs.HeightRaises.{written}
use Rattle.ml_parity.proofs.Turns.{gathers_left, gathers_part, some_gathered, first_made, first_kept}
use Rattle.ml_parity.proofs.zielonka.recursion.first_half.Goals as goal

pub choose_inside-requires-clause-stay : goal.choose_inside-requires-clause-stay
choose_inside-requires-clause-stay c = (gathers_part (place_of c.args.work.now.row.place.items)
    (place_of c.gather_priority-seeded.new.row.place.items) c.args.count c.gather_priority-seeded.result _
    c.gather_priority-seeded.ensures.gathers (board_of c.args.game.now) (winner_at c.args.winner.now)
    c.requires.part).stays

pub attract-rest-requires-clause-counts : goal.attract-rest-requires-clause-counts
attract-rest-requires-clause-counts c =
    gathers_left (place_of c.args.work.now.row.place.items) (place_of c.gather_priority-seeded.new.row.place.items)
    c.args.count c.gather_priority-seeded.result _ c.gather_priority-seeded.ensures.gathers c.args.game.now
    (number_at c.args.work.now.left.items) c.requires.at_part.counted

pub returns-clause-half : goal.returns-clause-half
returns-clause-half c =
    let long : c.args.work.now.choice.len ≡ length c.choose_inside.new.choice = c.args.work.now.choice.ok.0
    ∙ sym (ap length c.deref_mut.ensures.value) ∙ sym c.choose_inside.auto.choice in
    let kept = subst (λ (xs : List ℕ).
    KeepsBehind c.gather_priority-seeded.result (place_of c.gather_priority-seeded.new.row.place.items)
    (winner_at c.args.winner.now) (choice_at xs) (place_of c.attract-rest.new.work.row.place.items)
    (winner_at c.args.winner.now) (choice_at c.attract-rest.new.work.choice.items))
    (written c.args.work.now.choice.len c.choose_inside.new.choice _ long)
    (c.attract-rest.ensures.kept (winner_at c.args.winner.now)) in
    let chose = subst (λ (xs : List ℕ).
    ChoosesInside c.args.game.now (place_of c.gather_priority-seeded.new.row.place.items) c.args.count
    c.gather_priority-seeded.result c.args.count c.of_priority-player.result (choice_at xs)
    (choice_at c.choose_inside.new.choice)) c.deref_mut.ensures.value c.choose_inside.ensures in
    let some = some_gathered c.args.game.now (place_of c.args.work.now.row.place.items)
    (place_of c.gather_priority-seeded.new.row.place.items) c.args.count c.gather_priority-seeded.result
    c.lowest_priority-priority.result c.lowest_priority-priority.ensures c.gather_priority-seeded.ensures.gathers in
    record {
      smaller = omega (arith, c.attract-rest.ensures.low);
      counted = c.attract-rest.ensures.counts;
      mid = c.gather_priority-seeded.result;
      half = first_made c.args.game.now (place_of c.args.work.now.row.place.items)
          (place_of c.gather_priority-seeded.new.row.place.items) (place_of c.attract-rest.new.work.row.place.items)
          c.args.count c.gather_priority-seeded.result c.attract-rest.result c.lowest_priority-priority.result
          c.of_priority-player.result (winner_at c.args.winner.now) (winner_at c.give.new.winner)
          (choice_at c.args.work.now.choice.items) (choice_at c.choose_inside.new.choice)
          (choice_at c.attract-rest.new.work.choice.items) c.requires.part c.lowest_priority-priority.ensures
          c.of_priority-player.ensures c.gather_priority-seeded.ensures.gathers chose kept
          (c.attract-rest.ensures.attracted (winner_at c.args.winner.now)
          (gathers_part (place_of c.args.work.now.row.place.items)
          (place_of c.gather_priority-seeded.new.row.place.items) c.args.count c.gather_priority-seeded.result _
          c.gather_priority-seeded.ensures.gathers (board_of c.args.game.now) (winner_at c.args.winner.now)
          c.requires.part)) c.give.ensures;
    }

pub returns-clause-kept : goal.returns-clause-kept
returns-clause-kept c =
    let long : c.args.work.now.choice.len ≡ length c.choose_inside.new.choice = c.args.work.now.choice.ok.0
    ∙ sym (ap length c.deref_mut.ensures.value) ∙ sym c.choose_inside.auto.choice in
    let kept = subst (λ (xs : List ℕ).
    KeepsBehind c.gather_priority-seeded.result (place_of c.gather_priority-seeded.new.row.place.items)
    (winner_at c.args.winner.now) (choice_at xs) (place_of c.attract-rest.new.work.row.place.items)
    (winner_at c.args.winner.now) (choice_at c.attract-rest.new.work.choice.items))
    (written c.args.work.now.choice.len c.choose_inside.new.choice _ long)
    (c.attract-rest.ensures.kept (winner_at c.args.winner.now)) in
    let chose = subst (λ (xs : List ℕ).
    ChoosesInside c.args.game.now (place_of c.gather_priority-seeded.new.row.place.items) c.args.count
    c.gather_priority-seeded.result c.args.count c.of_priority-player.result (choice_at xs)
    (choice_at c.choose_inside.new.choice)) c.deref_mut.ensures.value c.choose_inside.ensures in
    first_kept c.args.game.now (place_of c.args.work.now.row.place.items)
    (place_of c.gather_priority-seeded.new.row.place.items) (place_of c.attract-rest.new.work.row.place.items)
    c.args.count c.gather_priority-seeded.result c.attract-rest.result c.lowest_priority-priority.result
    c.of_priority-player.result (winner_at c.args.winner.now) (winner_at c.give.new.winner)
    (choice_at c.args.work.now.choice.items) (choice_at c.choose_inside.new.choice)
    (choice_at c.attract-rest.new.work.choice.items) c.requires.part c.lowest_priority-priority.ensures
    c.of_priority-player.ensures c.gather_priority-seeded.ensures.gathers chose kept
    (c.attract-rest.ensures.attracted (winner_at c.args.winner.now)
    (gathers_part (place_of c.args.work.now.row.place.items) (place_of c.gather_priority-seeded.new.row.place.items)
    c.args.count c.gather_priority-seeded.result _ c.gather_priority-seeded.ensures.gathers
    (board_of c.args.game.now) (winner_at c.args.winner.now) c.requires.part)) c.give.ensures
