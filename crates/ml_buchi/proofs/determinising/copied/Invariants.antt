-- The names so far.
use Rattle.std.proofs.Common.{◌≡◌, take}
use Rattle.ml_buchi.proofs.determinising.copied.Given as goal

abbrev pub invariant-loop-name : goal.invariant-loop-name
invariant-loop-name l = l.row.items ≡ take l.name-index l.names
