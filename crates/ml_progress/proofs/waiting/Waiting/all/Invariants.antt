-- The vertices so far stand in the queue, and no others.
use Rattle.ml_progress.proofs.Queues.{QueueUpTo}
use Rattle.ml_progress.proofs.waiting.Waiting.all.Given as goal

abbrev pub invariant-loop-vertex : goal.invariant-loop-vertex
invariant-loop-vertex l = QueueUpTo l.vertex l.queue.items
