use Rattle.std.proofs.Common.{ℕ, ◌<◌, get_or}
use Rattle.ml_refutation.specs.Refutation.{IsEntry}
use Rattle.ml_refutation.specs.Views.{entry_of}
use Rattle.ml_refutation.specs.declared.refutation.Entry.{Entry}
use Rattle.ml_search.proofs.well_formed.are_entries.Given as goal

abbrev pub invariant-loop-entry : goal.invariant-loop-entry
invariant-loop-entry l =
    (k : ℕ) (d : Entry) → k < l.entry-index → IsEntry l.names l.count (entry_of l.sequents l.stacks (get_or l.entries k d))
