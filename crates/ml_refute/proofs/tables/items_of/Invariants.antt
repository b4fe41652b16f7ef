use Rattle.std.proofs.Common.{map}
use Rattle.ml_history.specs.Stacks.{stacked}
use Rattle.ml_refute.specs.private.Tables.{AreCarried}
use Rattle.ml_refute.proofs.tables.items_of.Given as goal

abbrev pub invariant-loop-number : goal.invariant-loop-number
invariant-loop-number l = AreCarried l.odds (map stacked l.yielded) l.fn.stacks l.stacks l.items.items
