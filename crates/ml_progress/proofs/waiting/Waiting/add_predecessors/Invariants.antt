-- The chain is walked from its last move on.
use Rattle.std.proofs.Common.{length, get_or}
use Rattle.ml_progress.proofs.Queues.{Waking}
use Rattle.ml_progress.proofs.waiting.Waiting.add_predecessors.Given as goal

abbrev pub invariant-loop-at : goal.invariant-loop-at
invariant-loop-at l =
    Waking l.table.rows (length l.initial.self.flags.items) l.predecessors.arrows.items l.initial.self.flags.items
    l.initial.self.queue.items (get_or l.predecessors.last.items l.vertex 0) l.self.flags.items l.self.queue.items l.at

abbrev pub decreases-loop-at : goal.decreases-loop-at
decreases-loop-at l = l.at
