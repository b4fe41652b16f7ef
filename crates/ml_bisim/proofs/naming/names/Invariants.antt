use Rattle.std.proofs.Common.{length}
use Rattle.ml_bisim.proofs.PartNames.{NamedSo}
use Rattle.ml_bisim.proofs.naming.names.Given as goal

abbrev pub invariant-loop-i : goal.invariant-loop-i
invariant-loop-i l =
    NamedSo l.class l.states l.parts.numbers.items l.parts.count (length l.fn.members.items) l.fn.keeper.items l.i
    l.members.items l.keeper.items l.names.items
