use Rattle.std.proofs.Common.{◌≡◌, ◌++◌, length}
use Rattle.std.specs.Vec.Iter.{into_iter_items, into_iter_len}
use Rattle.ml_bisim.proofs.Tables.{IsTable}
use Rattle.ml_bisim.proofs.numbering.numbered_by.Given as goal

abbrev pub invariant-loop-key : goal.invariant-loop-key
invariant-loop-key g l = (l.yielded ++ into_iter_items l.key-iterator ≡ into_iter_items l.initial.key-iterator)
    × IsTable g.K.PartialEq.eq g.met.K.Eq.laws l.yielded l.table.keys l.numbers.items
    × (into_iter_len l.key-iterator ≡ length (into_iter_items l.key-iterator))
