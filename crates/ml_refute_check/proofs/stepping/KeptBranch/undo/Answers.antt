use Rattle.std.proofs.Common.{sym, subst}
use Rattle.std.specs.Option.{IfSome}
use Rattle.ml_sequent.specs.Branch.{BranchList}
use Rattle.ml_refute_check.specs.private.Stepping.{IsBegun}
use Rattle.ml_refute_check.proofs.BegunBranches.{if_begun, begun_undone}
use Rattle.ml_refute_check.proofs.stepping.KeptBranch.undo.Goals as goal

pub invariant_of-self : goal.invariant_of-self
invariant_of-self c =
    let sequents = c.self.inside.sequents.now in
    record {
      begun = subst (λ (b : BranchList). IfSome c.self.inside.place (IsBegun b sequents)) (sym c.undo.ensures)
          (if_begun c.self.inside.place (λ place. begun_undone sequents place c.self.inside.branch) c.self.invariant.begun);
      last = tt;
    }
