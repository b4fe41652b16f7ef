-- The vertices in front of `at` have their choices.
use Rattle.ml_parity.specs.Solution.{choice_at}
use Rattle.ml_parity.specs.private.SolverSteps.{place_of, ChoosesInside}
use Rattle.ml_parity.proofs.zielonka.vertex_order.choose_inside.Given as goal

abbrev pub invariant-loop-at : goal.invariant-loop-at
invariant-loop-at l = ChoosesInside l.game (place_of l.row.place.items) l.count l.seeded l.at l.player
    (choice_at l.initial.choice) (choice_at l.choice)
