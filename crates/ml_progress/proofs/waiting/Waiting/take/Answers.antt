-- The first one is taken.
use Rattle.std.proofs.Common.{arith, refl}
use Rattle.ml_progress.proofs.Queues.{taken_low, wait_taken}
use Rattle.ml_progress.proofs.waiting.Waiting.take.Goals as goal

pub index_mut-requires : goal.index_mut-requires
index_mut-requires c =
    let low = taken_low c.in_ok-vertex.vertex c.args.self.now.flags.items c.pop_front.new.self.items
    c.args.self.now.queue.items c.in_ok-vertex.ensures.items c.requires in
    omega arith

pub returns-clause-waiting : goal.returns-clause-waiting
returns-clause-waiting c =
    wait_taken c.in_ok-vertex.vertex c.args.self.now.flags.items c.pop_front.new.self.items
    c.args.self.now.queue.items c.in_ok-vertex.ensures.items c.requires

pub returns-clause-taken : goal.returns-clause-taken
returns-clause-taken c = (
  taken_low c.in_ok-vertex.vertex c.args.self.now.flags.items c.pop_front.new.self.items
      c.args.self.now.queue.items c.in_ok-vertex.ensures.items c.requires,
  c.in_ok-vertex.ensures.items,
  refl,
)
