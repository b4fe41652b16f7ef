use Rattle.std.proofs.Common.{◌≡◌, ◌<◌, ℕ, get_or, length}
use Rattle.ml_sequent.specs.declared.parts.Stage.TheVariants.{New}
use Rattle.ml_sequent.proofs.parts.renew.Given as goal

abbrev pub invariant-loop-node : goal.invariant-loop-node
invariant-loop-node l = record {
  sized : length l.stages.items ≡ length l.initial.stages.items;
  fresh : (k : ℕ) → k < l.node-index → get_or l.stages.items (get_or l.nodes k 0) New ≡ New;
}
