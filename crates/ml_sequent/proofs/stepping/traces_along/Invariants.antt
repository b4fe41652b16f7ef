use Rattle.std.proofs.Common.{◌↔◌, take}
use Rattle.ml_lists.specs.Member.{IsMember}
use Rattle.ml_trace.specs.declared.letters.Triple.{Triple}
use Rattle.ml_sequent.specs.private.Exits.{IsTraceFrom}
use Rattle.ml_sequent.specs.private.Reach.{HasRoom}
use Rattle.ml_sequent.proofs.stepping.traces_along.Given as goal

abbrev pub invariant-loop-node : goal.invariant-loop-node
invariant-loop-node l = record {
  room : HasRoom l.graph l.levels l.reach;
  traces : (t : Triple) → IsMember t l.traces.items ↔ (IsMember t.from (take l.node-index l.nodes) × IsTraceFrom l.graph l.choice l.action l.diamond t);
}
