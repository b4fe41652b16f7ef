-- One vertex more has a choice, if it is the player's.
use Rattle.std.proofs.Common.{rules, arith, ℕ, List, ◌≡◌, ◌<◌, ◌∙◌, ◌+◌, length, get_or, subst, sym}
use Rattle.std.proofs.lemmas.List.{get_or_default}
use Rattle.ml_parity.specs.Solution.{choice_at}
use Rattle.ml_parity.specs.private.SolverSteps.{place_of, ChoosesInside}
use Rattle.ml_parity.proofs.VertexOrderLoops.{chosen_less, chosen_more}
use Rattle.ml_parity.proofs.zielonka.vertex_order.choose_inside.Goals as goal
use Rattle.ml_parity.proofs.zielonka.vertex_order.choose_inside.Goals.{then-eq, else-eq}

pub loop-at-preserved : goal.loop-at-preserved
loop-at-preserved c =
    let is : c.index-vertex.result.now ≡ get_or c.args.row.now.order.items c.loop-at.at 0 = c.index-vertex.ensures
    ∙ get_or_default c.args.row.now.order.items c.loop-at.at _ 0
    (omega (arith, c.loop-at-test.true, c.requires.fits, c.requires.row.size)) in
    let low : c.loop-at.at < length c.args.row.now.place.items = omega (arith, c.loop-at-test.true, c.requires.fits) in
    elim c.if-eq.branch as (λ w. ChoosesInside c.args.game.now (place_of c.args.row.now.place.items) c.args.count
    c.args.seeded (c.loop-at.at + 1) c.args.player (choice_at c.args.choice.now) (choice_at c.if-eq.choice)) [
      | then-eq w ↦ subst (λ (xs : List ℕ).
          ChoosesInside c.args.game.now (place_of c.args.row.now.place.items) c.args.count c.args.seeded
          (c.loop-at.at + 1) c.args.player (choice_at c.args.choice.now) (choice_at xs)) (sym w.choice-is)
          (chosen_more c.args.row.now.order.items c.args.row.now.place.items c.requires.row c.loop-at.at
          c.index-vertex.result.now low is c.args.game.now c.args.count c.args.seeded c.args.player
          (choice_at c.args.choice.now) c.loop-at.choice c.loop-at.invariant w.move_inside.result
          (omega (arith, c.loop-at.auto.at)) (omega (arith, c.requires.size, c.requires.choices, c.loop-at.auto.choice))
          w.move_inside.ensures.moves w.move_inside.ensures.inside)
      | else-eq w ↦ subst (λ (xs : List ℕ).
          ChoosesInside c.args.game.now (place_of c.args.row.now.place.items) c.args.count c.args.seeded
          (c.loop-at.at + 1) c.args.player (choice_at c.args.choice.now) (choice_at xs)) (sym w.choice-is)
          (chosen_less c.args.row.now.order.items c.args.row.now.place.items c.requires.row c.loop-at.at
          c.index-vertex.result.now low is c.args.game.now c.args.count c.args.seeded c.args.player
          (choice_at c.args.choice.now) c.loop-at.choice c.loop-at.invariant
          (search (rules, c.eq.ensures, w.if-eq.false, c.owner_at.ensures)))
    ]
