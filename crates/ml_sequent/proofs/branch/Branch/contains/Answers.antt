use Rattle.std.proofs.Common.{◌↔◌, IsTrue, subst}
use Rattle.ml_lists.specs.Member.{IsMember}
use Rattle.ml_lists.proofs.Ascending.{ascending-member, member-ascending}
use Rattle.ml_sequent.specs.Branch.{BranchList}
use Rattle.ml_sequent.proofs.branch.Branch.contains.Goals as goal

pub returns : goal.returns
returns c =
    let nodes = c.self.inside.trail.nodes in
    subst (λ (b : BranchList). IsTrue c.contains.result ↔ IsMember c.args.node b.spread.nodes) c.self.view_is (
      (λ t. member-ascending c.args.node nodes (c.contains.ensures.reached.0 t)),
      (λ h. c.contains.ensures.reached.1 (ascending-member c.args.node nodes h)),
    )
