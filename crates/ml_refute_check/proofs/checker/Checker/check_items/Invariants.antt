use Rattle.std.proofs.Common.{take, map}
use Rattle.ml_refutation.specs.Acceptance as acceptance
use Rattle.ml_refutation.specs.Views.{item_of}
use Rattle.ml_refute_check.specs.private.Parts.{question, KeepEach}
use Rattle.ml_refute_check.proofs.checker.Checker.check_items.Given as goal

abbrev pub invariant-loop-k : goal.invariant-loop-k
invariant-loop-k l =
    KeepEach (question l.self.graph.now l.self.refutation.now) l.place
    (map acceptance.Item (map (item_of l.self.refutation.now.stacks) (take l.k l.entry.items.items)))
