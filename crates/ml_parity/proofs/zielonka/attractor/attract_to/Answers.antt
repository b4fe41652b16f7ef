-- One predecessor more is seen, and in the end all are.
use Rattle.std.proofs.Common.{arith, ◌<◌, ◌≤◌, ◌+◌, ◌∙◌, subst, drop, get_or}
use Rattle.std.proofs.lemmas.List.{drop_all, drop_more}
use Rattle.ml_parity.specs.declared.players.Player.TheVariants.{Even}
use Rattle.ml_parity.specs.Game.{size}
use Rattle.ml_parity.specs.Solution.{choice_at}
use Rattle.ml_parity.specs.private.SolverSteps.{place_of, number_at, IsAttracting}
use Rattle.ml_parity.proofs.AttractLoops.{preds_move, move_low, some_left, counted_turn, kept_turn}
use Rattle.ml_parity.proofs.zielonka.attractor.attract_to.Goals as goal

pub attract_one-rest-requires-clause-vertex : goal.attract_one-rest-requires-clause-vertex
attract_one-rest-requires-clause-vertex c =
    move_low c.args.game.now c.requires.game.lists _ c.args.to
    (preds_move c.args.game.now c.args.to c.args.predecessors.now c.requires.predecessors c.loop-from.from-index
    c.loop-from-test.true)

pub attract_one-rest-requires-clause-some : goal.attract_one-rest-requires-clause-some
attract_one-rest-requires-clause-some c =
    some_left c.args.game.now (place_of c.loop-from.work.row.place.items)
    (place_of c.args.work.now.row.place.items c.args.to) c.loop-from.work.left.items c.args.predecessors.now
    c.loop-from.from-index c.loop-from-test.true (attract_one-rest-requires-clause-vertex c)
    c.loop-from.invariant.counts

pub loop-from-preserved : goal.loop-from-preserved
loop-from-preserved c =
    let kept = c.loop-from.invariant.kept (λ v. Even) in
    let one = c.attract_one-rest.ensures.kept (λ v. Even) in
    let vertex : get_or c.args.predecessors.now c.loop-from.from-index 0 < size c.args.game.now =
    move_low c.args.game.now c.requires.game.lists _ c.args.to
    (preds_move c.args.game.now c.args.to c.args.predecessors.now c.requires.predecessors c.loop-from.from-index
    c.loop-from-test.true) in
    let low : c.loop-from.rest ≤ place_of c.args.work.now.row.place.items c.args.to =
    omega (arith, c.loop-from.invariant.low, c.requires.fits) in
    record {
      work = c.attract_one-rest.ensures.work;
      low = omega (arith, c.attract_one-rest.ensures.low, c.loop-from.invariant.low);
      counts = counted_turn c.args.game.now (place_of c.loop-from.work.row.place.items)
          (place_of c.attract_one-rest.new.work.row.place.items) c.loop-from.rest
          (place_of c.args.work.now.row.place.items c.args.to) (λ v. Even) (choice_at c.loop-from.work.choice.items)
          (choice_at c.attract_one-rest.new.work.choice.items) c.loop-from.work.left.items
          c.attract_one-rest.new.work.left.items c.args.predecessors.now c.loop-from.from-index one low
          c.loop-from-test.true vertex c.attract_one-rest.ensures.counted c.loop-from.invariant.counts;
      kept = λ win. kept_turn c.args.count c.loop-from.rest (place_of c.args.work.now.row.place.items)
          (place_of c.loop-from.work.row.place.items) (place_of c.attract_one-rest.new.work.row.place.items) win
          (choice_at c.args.work.now.choice.items) (choice_at c.loop-from.work.choice.items)
          (choice_at c.attract_one-rest.new.work.choice.items) c.loop-from.invariant.low
          (c.loop-from.invariant.kept win) (c.attract_one-rest.ensures.kept win);
      attracts = λ n mid a here inside before.
          c.attract_one-rest.ensures.attracts n mid a (drop (c.loop-from.from-index + 1) c.args.predecessors.now)
          (kept.behind c.args.to c.requires.fits ∙ here) inside
          (preds_move c.args.game.now c.args.to c.args.predecessors.now c.requires.predecessors c.loop-from.from-index
          c.loop-from-test.true)
          (subst (IsAttracting c.args.game.now (place_of c.loop-from.work.row.place.items) n mid c.loop-from.rest a
          c.args.player (choice_at c.loop-from.work.choice.items) (number_at c.loop-from.work.left.items))
          (drop_more c.args.predecessors.now c.loop-from.from-index 0 c.loop-from-test.true)
          (c.loop-from.invariant.attracts n mid a here inside before));
    }

pub returns-clause-attracts : goal.returns-clause-attracts
returns-clause-attracts c = λ n mid a here inside before.
    subst (IsAttracting c.args.game.now (place_of c.loop-from.work.row.place.items) n mid c.loop-from.rest a
    c.args.player (choice_at c.loop-from.work.choice.items) (number_at c.loop-from.work.left.items))
    (drop_all c.loop-from.from-index c.args.predecessors.now c.loop-from-test.false)
    (c.loop-from.invariant.attracts n mid a here inside before)
