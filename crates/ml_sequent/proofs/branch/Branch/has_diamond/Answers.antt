use Rattle.std.proofs.Common.{rules, ◌≡◌, ◌↔◌, false, IsTrue, subst}
use Rattle.ml_lists.proofs.Ascending.{ascending-member}
use Rattle.ml_sequent.specs.Branch.{BranchList}
use Rattle.ml_sequent.specs.Step.{IsDiamondOf}
use Rattle.ml_sequent.proofs.BranchQuestions.{diamond_told, not_told}
use Rattle.ml_sequent.proofs.branch.Branch.has_diamond.Goals as goal

pub returns-then-contains : goal.returns-then-contains
returns-then-contains c =
    subst (λ (b : BranchList). IsTrue c.is_diamond.result ↔ IsDiamondOf b.graph b.spread c.args.node) c.self.view_is
    (diamond_told c.self.inside.phase c.graph.result.now c.self.inside.trail.nodes c.self.inside.choice c.graph.ensures
    c.args.node c.node.result.now c.is_diamond.result (c.contains.ensures.reached.0 c.if-contains.true) c.node.ensures c.is_diamond.ensures)

pub returns-else-contains : goal.returns-else-contains
returns-else-contains c =
    let other : c.contains.result ≡ false = search (rules, c.if-contains.false) in
    subst (λ (b : BranchList). IsTrue c.contains.result ↔ IsDiamondOf b.graph b.spread c.args.node) c.self.view_is
    (not_told c.contains.result other
    (λ d. c.contains.ensures.reached.1 (ascending-member c.args.node c.self.inside.trail.nodes d.member)))
