use Rattle.std.proofs.Common.{◌≡◌, map, take}
use Rattle.ml_refutation.specs.Views.{entry_of}
use Rattle.ml_refutation_text.specs.Canonical.{sequents_of}
use Rattle.ml_refutation_text.proofs.tables.sequents_of.Given as goal

abbrev pub invariant-loop-entry : goal.invariant-loop-entry
invariant-loop-entry l =
    let r = l.refutation in
    l.table
    ≡ record {
      all = r.sequents;
      met = sequents_of (map (entry_of r.sequents r.stacks) (take l.entry-index r.entries.items));
    }
