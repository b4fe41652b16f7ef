use Rattle.std.proofs.Common.{rules, ◌≡◌, ◌↔◌, false, IsTrue, refl, subst}
use Rattle.ml_lists.proofs.Ascending.{ascending-member}
use Rattle.ml_sequent.specs.Branch.{BranchList}
use Rattle.ml_sequent.specs.Spread.{IsCause}
use Rattle.ml_sequent.specs.declared.clashes.ClashCause.TheVariants as cause
use Rattle.ml_sequent.proofs.BranchQuestions.{pair_told, not_told}
use Rattle.ml_sequent.proofs.branch.Branch.has_pair.Goals as goal

pub returns-then-not-contains : goal.returns-then-not-contains
returns-then-not-contains c =
    let other : c.contains.result ≡ false = search (rules, c.if-not-contains.true) in
    subst (λ (b : BranchList). IsTrue false ↔ IsCause b.graph b.spread (cause.Pair c.args.positive c.args.negative)) c.self.view_is
    (not_told false refl
    (λ d. let there = c.contains.ensures.reached.1 (ascending-member c.args.positive c.self.inside.trail.nodes d.0) in cc))

pub returns-then-not-contains-2 : goal.returns-then-not-contains-2
returns-then-not-contains-2 c =
    let other : c.contains-2.result ≡ false = search (rules, c.if-not-contains-2.true) in
    subst (λ (b : BranchList). IsTrue false ↔ IsCause b.graph b.spread (cause.Pair c.args.positive c.args.negative)) c.self.view_is
    (not_told false refl
    (λ d. let there = c.contains-2.ensures.reached.1 (ascending-member c.args.negative c.self.inside.trail.nodes d.1) in cc))

pub returns : goal.returns
returns c =
    subst (λ (b : BranchList). IsTrue c.is_pair.result ↔ IsCause b.graph b.spread (cause.Pair c.args.positive c.args.negative)) c.self.view_is
    (pair_told c.self.inside.phase c.graph.result.now c.self.inside.trail.nodes c.self.inside.choice c.graph.ensures
    c.args.positive c.args.negative c.is_pair.result (c.contains.ensures.reached.0 c.if-not-contains.false)
    (c.contains-2.ensures.reached.0 c.if-not-contains-2.false) c.is_pair.ensures)
