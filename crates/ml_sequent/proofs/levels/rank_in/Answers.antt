use Rattle.std.proofs.Common.{subst}
use Rattle.std.specs.List.Sorted.{IsBinarySearchResult}
use Rattle.std.specs.Ordering.{nat_cmp}
use Rattle.ml_sequent.proofs.RankedWalks.{looked_up, never_missed}
use Rattle.ml_sequent.proofs.levels.rank_in.Goals as goal

pub returns-in-Ok : goal.returns-in-Ok
returns-in-Ok c =
    let found = subst (IsBinarySearchResult (λ y. nat_cmp y c.args.priority) c.args.priorities.now) c.in-Ok.is c.binary_search.ensures.position in
    let at = looked_up c.args.priorities.now c.args.priority c.in-Ok.place c.requires.ascends found in
    record { low = at.0; at = at.1 }

pub returns-in-Err : goal.returns-in-Err
returns-in-Err c =
    let found = subst (IsBinarySearchResult (λ y. nat_cmp y c.args.priority) c.args.priorities.now) c.in-Err.is c.binary_search.ensures.position in
    absurd (never_missed c.args.priorities.now c.args.priority c.in-Err.field-0 c.requires.ascends c.requires.has found)
