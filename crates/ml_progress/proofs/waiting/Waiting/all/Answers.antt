-- In the end all vertices stand in the queue.
use Rattle.ml_progress.proofs.Queues.{queue_more, wait_all}
use Rattle.ml_progress.proofs.waiting.Waiting.all.Goals as goal

pub loop-vertex-preserved : goal.loop-vertex-preserved
loop-vertex-preserved c =
    queue_more c.loop-vertex.vertex c.loop-vertex.queue.items c.push_back.new.self.items c.in_ok-push_back.ensures.items
    c.loop-vertex.invariant

pub returns-clause-waiting : goal.returns-clause-waiting
returns-clause-waiting c =
    wait_all c.args.vertices c.loop-vertex.vertex c.in_ok-flags.flags.items c.loop-vertex.queue.items
    (c.in_ok-flags.ensures.items_if_clones_equal (λ y e. e)) c.loop-vertex-test.false c.loop-vertex.auto.vertex-end
    c.loop-vertex.invariant
