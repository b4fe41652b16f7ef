use Rattle.std.proofs.Common.{◌≡◌, take, drop, length}
use Rattle.ml_pgsolver.specs.private.Assembled.{ArePlaces}
use Rattle.ml_pgsolver.proofs.assembling.places_of.Given as goal

abbrev pub invariant-loop-i : goal.invariant-loop-i
invariant-loop-i l = record {
  as_many : length l.successors.items ≡ length l.fn.successors.items;
  done : ArePlaces l.ids (take l.i l.successors.items) (take l.i l.fn.successors.items);
  left : drop l.i l.successors.items ≡ drop l.i l.fn.successors.items;
}
