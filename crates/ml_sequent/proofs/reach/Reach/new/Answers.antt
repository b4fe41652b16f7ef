use Rattle.std.proofs.Common.{rules, ◌≡◌, ◌*◌, false, true, List, Bool, replicate, sym, subst}
use Rattle.ml_sequent.specs.declared.reach.Visit.{Visit}
use Rattle.ml_sequent.specs.private.Reach.{IsMarked, mark}
use Rattle.ml_sequent.proofs.Reaching.{nothing_marked, none_replicated}
use Rattle.ml_sequent.proofs.reach.Reach.new.Goals as goal

pub invariant_of-result : goal.invariant_of-result
invariant_of-result c =
    let items : c.in_ok-marks.marks.items ≡ replicate (c.args.width * c.args.nodes) false = search rules in
    subst (λ (found : List Visit). IsMarked c.args.width c.in_ok-marks.marks.items found) (sym c.new.ensures.items)
    (nothing_marked c.args.width c.in_ok-marks.marks.items
    (λ m h. none_replicated (c.args.width * c.args.nodes) m (subst (λ (xs : List Bool). mark xs m ≡ true) items h)))
