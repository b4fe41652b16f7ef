use Rattle.std.proofs.Common.{◌≡◌, length}
use Rattle.ml_labelled.specs.private.Views.{rows_of}
use Rattle.ml_translate.proofs.EdgesMade.{AreMade}
use Rattle.ml_translate.proofs.edges.put_all.Given as goal

abbrev pub invariant-loop-place : goal.invariant-loop-place
invariant-loop-place l = record {
  made : AreMade l.graph l.numbers l.fn.places.keys l.places.keys (rows_of l.rows.items);
  as_long : length l.rows.items ≡ length l.fn.rows.items;
}

abbrev pub decreases-loop-place : goal.decreases-loop-place
decreases-loop-place l = length l.places.keys
