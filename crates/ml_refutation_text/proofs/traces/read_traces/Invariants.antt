use Rattle.std.proofs.Common.{length}
use Rattle.ml_refutation_text.proofs.TracesRead.{ItemsTo}
use Rattle.ml_refutation_text.proofs.traces.read_traces.Given as goal

abbrev pub invariant-loop-next : goal.invariant-loop-next
invariant-loop-next l = ItemsTo l.version l.names l.live l.fn.tables l.fn.at l.tables l.items.items l.rest

abbrev pub decreases-loop-next : goal.decreases-loop-next
decreases-loop-next l = length l.rest.text.now
