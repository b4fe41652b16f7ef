use Rattle.std.proofs.Common.{rules, ◌≡◌, ◌↔◌, Bool, false, IfOk, IsTrue, refl, sym, subst}
use Rattle.ml_lists.proofs.Ascending.{ascending-member}
use Rattle.ml_sequent.specs.Branch.{BranchList}
use Rattle.ml_sequent.specs.Spread.{IsCause}
use Rattle.ml_sequent.specs.private.Trails.{spread_at}
use Rattle.ml_sequent.proofs.BranchQuestions.{cycle_told, not_told}
use Rattle.ml_sequent.proofs.branch.Branch.is_cause.Goals as goal

pub returns-then-not-contains-clause-cause : goal.returns-then-not-contains-clause-cause
returns-then-not-contains-clause-cause c =
    let other : c.contains.result ≡ false = search (rules, c.if-not-contains.true) in
    subst (λ (b : BranchList). IsTrue false ↔ IsCause b.graph b.spread c.args.cause) c.self.view_is
    (subst (λ x. IsTrue false ↔ IsCause c.self.inside.phase (spread_at c.self.inside.trail.nodes c.self.inside.choice) x) (sym c.in-Cycle.is)
    (not_told false refl
    (λ d. let there = c.contains.ensures.reached.1 (ascending-member c.in-Cycle.node c.self.inside.trail.nodes d.0) in cc)))

pub returns-else-not-contains-clause-cause : goal.returns-else-not-contains-clause-cause
returns-else-not-contains-clause-cause c =
    subst (λ (b : BranchList). IfOk c.on_odd_cycle.result (λ (t : Bool). IsTrue t ↔ IsCause b.graph b.spread c.args.cause)) c.self.view_is
    (subst (λ x. IfOk c.on_odd_cycle.result (λ (t : Bool). IsTrue t ↔ IsCause c.self.inside.phase (spread_at c.self.inside.trail.nodes c.self.inside.choice) x))
    (sym c.in-Cycle.is)
    (cycle_told c.self.inside.phase c.self.inside.trail.nodes c.self.inside.choice c.in-Cycle.node c.on_odd_cycle.result
    (c.contains.ensures.reached.0 c.if-not-contains.false) c.on_odd_cycle.ensures.cycle))
