use Rattle.std.proofs.Common.{◌≡◌, map, take}
use Rattle.ml_refutation.specs.Views.{entry_of}
use Rattle.ml_refutation_text.specs.Canonical.{stacks_of}
use Rattle.ml_refutation_text.proofs.tables.stacks_of.Given as goal

abbrev pub invariant-loop-entry : goal.invariant-loop-entry
invariant-loop-entry l =
    let r = l.refutation in
    l.table
    ≡ record {
      all = r.stacks;
      met = stacks_of (map (entry_of r.sequents r.stacks) (take l.entry-index r.entries.items));
    }
