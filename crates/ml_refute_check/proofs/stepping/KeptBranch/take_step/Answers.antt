use Rattle.std.proofs.Common.{ℕ, ◌≡◌, ◌∙◌, List, Option, Some, sym, subst}
use Rattle.std.specs.Option.{IfSome}
use Rattle.ml_sequent.specs.Branch.{BranchList}
use Rattle.ml_refute_check.specs.declared.stepping.KeptStep.{KeptStep}
use Rattle.ml_refute_check.specs.private.Sources.{StandAmong}
use Rattle.ml_refute_check.specs.private.Stepping.{KeptList, IsStepOn, AreTargets}
use Rattle.ml_refute_check.proofs.stepping.KeptBranch.take_step.Goals as goal
use Rattle.ml_refute_check.proofs.stepping.KeptBranch.take_step.Goals.{in_default-via-in-Some+else-take-diamond, in_default-via-in_default}

-- the step that is kept is one of the branch
kept : (b : BranchList) (s : KeptStep) (found last : Option KeptStep)
    → found ≡ last
    → found ≡ Some s
    → IfSome last (IsStepOn b)
    → IsStepOn b s
kept b s found last taken is own = subst (λ o. IfSome o (IsStepOn b)) (sym taken ∙ is) own

pub returns-then-stand_among-clause-step : goal.returns-then-stand_among-clause-step
returns-then-stand_among-clause-step c =
    subst (λ (b : KeptList). IsStepOn b.on c.in-Some.last) c.self.view_is
    (kept c.self.inside.branch c.in-Some.last c.take.result c.self.inside.last c.take.ensures.value c.in-Some.is
    c.self.invariant.last)

pub returns-then-stand_among-clause-sources : goal.returns-then-stand_among-clause-sources
returns-then-stand_among-clause-sources c =
    subst (λ (ns : List ℕ). StandAmong ns c.args.items.now) c.values.ensures.value
    (c.stand_among.ensures.0 c.if-stand_among.true)

pub make_step-requires-clause-targets : goal.make_step-requires-clause-targets
make_step-requires-clause-targets c =
    let b = c.self.inside.branch in
    let own = kept b c.in-Some.last c.take.result c.self.inside.last c.take.ensures.value c.in-Some.is c.self.invariant.last in
    subst (λ d. IfSome c.in-Some.last.targets (AreTargets b.graph b.spread d)) c.if-take-diamond.true own.step.targets

pub make_step-requires-clause-items : goal.make_step-requires-clause-items
make_step-requires-clause-items c =
    subst (λ (b : KeptList). StandAmong b.on.sequent c.args.items.now) (sym c.self.view_is) c.requires.items

pub make_step-requires-in_default-clause-items : goal.make_step-requires-in_default-clause-items
make_step-requires-in_default-clause-items c =
    let stand =
    subst (λ (b : KeptList). StandAmong b.on.sequent c.args.items.now) (sym c.self.view_is) c.requires.items in
    elim c.in_default.branch [
      | in_default-via-in-Some+else-take-diamond w ↦ subst (λ (b : KeptList). StandAmong b.on.sequent c.args.items.now) (sym w.self-is) stand
      | in_default-via-in_default w ↦ subst (λ (b : KeptList). StandAmong b.on.sequent c.args.items.now) (sym w.self-is) stand
    ]
