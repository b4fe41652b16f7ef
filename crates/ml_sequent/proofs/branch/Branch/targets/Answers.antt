use Rattle.std.proofs.Common.{ℕ, ◌↔◌, IfOk, subst}
use Rattle.ml_lists.specs.Member.{IsMember}
use Rattle.ml_sequent.specs.Branch.{BranchList}
use Rattle.ml_sequent.specs.Step.{IsDiamondOf, IsTarget}
use Rattle.ml_sequent.proofs.Traces.{targets_told}
use Rattle.ml_sequent.proofs.branch.Branch.targets.Goals as goal

pub returns-clause-targets : goal.returns-clause-targets
returns-clause-targets c =
    subst (λ (b : BranchList). IsDiamondOf b.graph b.spread c.args.diamond
    → IfOk c.targets_on.result (λ targets. (m : ℕ) → IsMember m targets ↔ IsTarget b.graph b.spread c.args.diamond m))
    c.self.view_is
    (λ diamond. targets_told c.self.inside.phase c.graph.result.now c.self.inside.trail.nodes c.self.inside.choice
    c.args.diamond c.targets_on.result c.graph.ensures diamond c.targets_on.ensures)
    c.requires.diamond
