-- The measure rises from where it begins, until no vertex waits.
use Rattle.std.proofs.Common.{◌≡◌, ◌∙◌, ap, false, length, length-set, sym}
use Rattle.ml_progress.proofs.HandedBack.{handed_back}
use Rattle.ml_progress.proofs.RisingMeasures.{rising_begins, rising_stays, rising_rises, less_to_rise, rising_ends}
use Rattle.ml_progress.proofs.lifting.least_measure.Goals as goal

pub loop-vertex-init : goal.loop-vertex-init
loop-vertex-init c = record {
  wide = c.in_ok-table.ensures.wide;
  room = sym c.in_ok-next.next.ok.0 ∙ c.in_ok-next.ensures.len ∙ c.len.ensures ∙ c.args.scale.now.bounds.ok.0;
  rising = rising_begins c.args.game.now c.size-size.ensures.game c.args.scale.now.player c.size-size.result
      c.in_ok-table.table.rows c.in_ok-waiting.waiting.flags.items c.in_ok-waiting.waiting.queue.items
      c.size-size.ensures.vertices c.in_ok-table.ensures.low c.in_ok-waiting.ensures.waiting
      c.in_ok-waiting.ensures.long c.in_ok-waiting.ensures.all;
}

pub loop-vertex-preserved : goal.loop-vertex-preserved
loop-vertex-preserved c =
    let same : length c.lift.new.next ≡ length c.loop-vertex.next.items =
    c.lift.auto.next ∙ ap length c.deref_mut.ensures.value in
    record {
      wide = c.if-lift.ensures.wide ∙ c.loop-vertex.invariant.wide;
      room = ap length (handed_back c.loop-vertex.next.len c.lift.new.next c.loop-vertex.next.items
          c.loop-vertex.next.ok.0 same) ∙ same ∙ c.loop-vertex.invariant.room;
      rising = rising_stays c.args.game.now c.size-size.ensures.game c.args.scale.now.player c.loop-vertex.table.rows
          c.lift.new.table.rows c.loop-vertex.waiting.flags.items c.loop-vertex.waiting.queue.items
          c.take.new.self.queue.items c.in-Some.vertex c.loop-vertex.invariant.rising c.in-Some.ensures.taken.0
          c.take.new.self.flags.items c.in-Some.ensures.taken.2 c.in-Some.ensures.waiting
          (ap length c.in-Some.ensures.taken.2 ∙ length-set c.loop-vertex.waiting.flags.items c.in-Some.vertex false)
          c.if-lift.ensures.lifted;
    }

pub loop-vertex-preserved-in-Continue-branch-4 : goal.loop-vertex-preserved-in-Continue-branch-4
loop-vertex-preserved-in-Continue-branch-4 c =
    let same : length c.lift.new.next ≡ length c.loop-vertex.next.items =
    c.lift.auto.next ∙ ap length c.deref_mut.ensures.value in
    record {
      wide = c.if-lift.ensures.wide ∙ c.loop-vertex.invariant.wide;
      room = ap length (handed_back c.loop-vertex.next.len c.lift.new.next c.loop-vertex.next.items
          c.loop-vertex.next.ok.0 same) ∙ same ∙ c.loop-vertex.invariant.room;
      rising = rising_rises c.args.game.now c.size-size.ensures.game c.args.scale.now.player c.loop-vertex.table.rows
          c.lift.new.table.rows c.loop-vertex.waiting.flags.items c.loop-vertex.waiting.queue.items
          c.take.new.self.queue.items c.in-Some.vertex c.loop-vertex.invariant.rising c.in-Some.ensures.taken.0
          c.if-lift.ensures.lifted c.args.predecessors.now.last.items c.args.predecessors.now.arrows.items
          c.take.new.self.flags.items c.add_predecessors.new.self.flags.items c.add_predecessors.new.self.queue.items
          c.in-Some.ensures.taken.2
          (ap length c.in-Some.ensures.taken.2 ∙ length-set c.loop-vertex.waiting.flags.items c.in-Some.vertex false)
          c.requires.chains c.in_ok-add_predecessors.ensures.waiting c.in_ok-add_predecessors.ensures.woken;
    }

pub loop-vertex-smaller-in-Continue-branch-4 : goal.loop-vertex-smaller-in-Continue-branch-4
loop-vertex-smaller-in-Continue-branch-4 c =
    less_to_rise c.args.game.now c.size-size.ensures.game c.args.scale.now.player c.loop-vertex.table.rows
    c.lift.new.table.rows c.loop-vertex.waiting.flags.items c.loop-vertex.waiting.queue.items
    c.take.new.self.queue.items c.in-Some.vertex c.loop-vertex.invariant.rising c.in-Some.ensures.taken.0
    c.if-lift.ensures.lifted (length c.args.predecessors.now.arrows.items) c.add_predecessors.new.self.queue.items
    c.in-Some.ensures.taken.1 c.in_ok-add_predecessors.ensures.few

pub returns-clause-least : goal.returns-clause-least
returns-clause-least c =
    rising_ends c.args.game.now c.size-size.ensures.game c.args.scale.now.player c.loop-vertex.table.rows
    c.loop-vertex.waiting.flags.items c.loop-vertex.waiting.queue.items c.loop-vertex.invariant.rising
    c.in_default.ensures.taken.0
