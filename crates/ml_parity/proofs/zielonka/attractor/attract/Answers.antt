-- The vertex at the next place is followed backwards, and in the end all are.
use Rattle.std.proofs.Common.{arith, ◌≡◌, ◌<◌, ◌-◌, subst, []}
use Rattle.ml_parity.specs.Solution.{choice_at}
use Rattle.ml_parity.specs.private.SolverSteps.{place_of, number_at, IsLeft, IsAttracting}
use Rattle.ml_parity.proofs.VertexOrder.{is_vertex}
use Rattle.ml_parity.proofs.WaitingFrames.{keeps_itself}
use Rattle.ml_parity.proofs.Attracting.{began, finished}
use Rattle.ml_parity.proofs.AttractLoops.{stands_at, preds_at, taken_left, taken_attracting, kept_turn}
use Rattle.ml_parity.proofs.zielonka.attractor.attract.Goals as goal

pub loop-rest-init : goal.loop-rest-init
loop-rest-init c = record {
  work = c.requires.work;
  low = omega arith;
  reached = c.requires.low;
  within = omega arith;
  counts = c.requires.counts;
  kept = λ win. keeps_itself c.args.seeded (place_of c.args.work.now.row.place.items) win
      (choice_at c.args.work.now.choice.items);
  attracts = λ win part. began c.args.game.now (place_of c.args.work.now.row.place.items) c.args.whole c.args.seeded
      c.args.player win (choice_at c.args.work.now.choice.items) (number_at c.args.work.now.left.items) c.requires.low
      (λ v inside. subst (λ n. v < n) c.requires.work.vertices
      (is_vertex c.args.work.now.row.place.items v c.args.whole
      (omega (arith, c.requires.fits, c.requires.work.vertices)) inside)) part c.requires.counts;
}

pub attract_to-rest-requires-clause-predecessors : goal.attract_to-rest-requires-clause-predecessors
attract_to-rest-requires-clause-predecessors c =
    preds_at c.args.game.now c.loop-rest.work.row.order.items c.loop-rest.work.row.place.items
    c.loop-rest.invariant.work.row c.loop-rest.invariant.work.vertices c.args.predecessors.now
    c.requires.predecessors (c.loop-rest.reached - 1) c.index-to.result.now c.at.result.now c.loop-rest.work.left.items
    (omega (arith, c.loop-rest-test.true, c.loop-rest.invariant.within, c.requires.fits)) c.index-to.ensures
    c.at.ensures

pub attract_to-rest-requires-clause-counts : goal.attract_to-rest-requires-clause-counts
attract_to-rest-requires-clause-counts c =
    taken_left c.args.game.now c.loop-rest.work.row.order.items c.loop-rest.work.row.place.items
    c.loop-rest.invariant.work.row c.loop-rest.invariant.work.vertices c.args.predecessors.now
    c.requires.predecessors (c.loop-rest.reached - 1) c.index-to.result.now c.at.result.now c.loop-rest.work.left.items
    (omega (arith, c.loop-rest-test.true, c.loop-rest.invariant.within, c.requires.fits)) c.index-to.ensures
    c.at.ensures c.loop-rest.reached (omega (arith, c.loop-rest-test.true)) c.loop-rest.invariant.counts

pub loop-rest-preserved : goal.loop-rest-preserved
loop-rest-preserved c =
    let here : place_of c.loop-rest.work.row.place.items c.index-to.result.now ≡ c.loop-rest.reached - 1 =
    stands_at c.args.game.now c.loop-rest.work.row.order.items c.loop-rest.work.row.place.items
    c.loop-rest.invariant.work.row c.loop-rest.invariant.work.vertices c.args.predecessors.now
    c.requires.predecessors (c.loop-rest.reached - 1) c.index-to.result.now c.at.result.now c.loop-rest.work.left.items
    (omega (arith, c.loop-rest-test.true, c.loop-rest.invariant.within, c.requires.fits)) c.index-to.ensures
    c.at.ensures in
    let taken = taken_attracting c.args.game.now c.loop-rest.work.row.order.items c.loop-rest.work.row.place.items
    c.loop-rest.invariant.work.row c.loop-rest.invariant.work.vertices c.args.predecessors.now
    c.requires.predecessors (c.loop-rest.reached - 1) c.index-to.result.now c.at.result.now c.loop-rest.work.left.items
    (omega (arith, c.loop-rest-test.true, c.loop-rest.invariant.within, c.requires.fits)) c.index-to.ensures
    c.at.ensures c.loop-rest.reached (omega (arith, c.loop-rest-test.true))
    c.args.whole c.args.seeded c.loop-rest.rest c.args.player (choice_at c.loop-rest.work.choice.items)
    (omega (arith, c.loop-rest-test.true)) in
    record {
      work = c.attract_to-rest.ensures.work;
      low = omega (arith, c.attract_to-rest.ensures.low, c.loop-rest.invariant.low);
      reached = omega (arith, c.attract_to-rest.ensures.low, c.loop-rest-test.true);
      within = omega (arith, c.loop-rest.invariant.within);
      counts = subst (λ a. IsLeft c.args.game.now (place_of c.attract_to-rest.new.work.row.place.items) a
          (number_at c.attract_to-rest.new.work.left.items)) here c.attract_to-rest.ensures.counts;
      kept = λ win. kept_turn c.args.seeded c.loop-rest.rest (place_of c.args.work.now.row.place.items)
          (place_of c.loop-rest.work.row.place.items) (place_of c.attract_to-rest.new.work.row.place.items) win
          (choice_at c.args.work.now.choice.items) (choice_at c.loop-rest.work.choice.items)
          (choice_at c.attract_to-rest.new.work.choice.items) c.loop-rest.invariant.low (c.loop-rest.invariant.kept win)
          (c.attract_to-rest.ensures.kept win);
      attracts = λ win part. c.attract_to-rest.ensures.attracts c.args.whole c.args.seeded (c.loop-rest.reached - 1)
          here (omega (arith, c.loop-rest-test.true, c.loop-rest.invariant.within))
          (taken (c.loop-rest.invariant.attracts win part));
    }

pub returns-clause-attracted : goal.returns-clause-attracted
returns-clause-attracted c = λ win part.
    let done : c.loop-rest.reached ≡ c.loop-rest.rest =
    omega (arith, c.loop-rest-test.false, c.loop-rest.invariant.reached) in
    finished c.args.game.now (place_of c.loop-rest.work.row.place.items) c.args.whole c.args.seeded c.loop-rest.rest
    c.args.player (choice_at c.loop-rest.work.choice.items) (number_at c.loop-rest.work.left.items)
    (λ v inside. subst (λ n. v < n) c.loop-rest.invariant.work.vertices
    (is_vertex c.loop-rest.work.row.place.items v c.args.whole
    (omega (arith, c.requires.fits, c.loop-rest.invariant.work.vertices)) inside))
    (subst (λ a. IsAttracting c.args.game.now (place_of c.loop-rest.work.row.place.items) c.args.whole c.args.seeded
    c.loop-rest.rest a c.args.player (choice_at c.loop-rest.work.choice.items)
    (number_at c.loop-rest.work.left.items) []) done (c.loop-rest.invariant.attracts win part))
