use Rattle.std.proofs.Common.{subst, sym}
use Rattle.std.specs.List.{AllByRecursion}
use Rattle.ml_spec.specs.Questions.{is_in}
use Rattle.ml_replies.specs.declared.outcome.Meets.TheVariants.{Yes, No}
use Rattle.ml_replies.specs.private.Checks.{EachAs}
use Rattle.ml_replies.proofs.ProblemLogics.{all_admitted, not_ltl, IsAdmittedBy}
use Rattle.ml_replies.proofs.Verdicts.{by_each_failed, by_each_met}
use Rattle.ml_replies.proofs.checking.meets_by.Goals as goal

pub meets_each-requires : goal.meets_each-requires
meets_each-requires c =
    let l = c.args.specification.now.logic in
    let xs = c.args.specification.now.items.items in
    let m = c.args.structure.now in
    let ok = c.in_ok-is_admitted.ensures.0 c.if-not-branch.false in
    record {
      admitted = subst (AllByRecursion (IsAdmittedBy m)) (sym c.requires.problems)
          (all_admitted l xs (is_in c.args.taken.now) c.args.question m c.requires.specified c.requires.question ok);
      state = c.requires.state;
    }

pub returns-in-Yes : goal.returns-in-Yes
returns-in-Yes c =
    let l = c.args.specification.now.logic in
    let xs = c.args.specification.now.items.items in
    let m = c.args.structure.now in
    let ok = c.in_ok-is_admitted.ensures.0 c.if-not-branch.false in
    let told = rw c.in-Yes.is at c.in_ok-meets_each-in-Mu.ensures in
    by_each_met l xs (is_in c.args.taken.now) c.args.question m c.args.state c.requires.specified c.requires.question ok
    c.requires.state (not_ltl l c.in-Mu.is) (subst (λ ps. EachAs ps m c.args.state Yes) c.requires.problems told)

pub returns-in-No : goal.returns-in-No
returns-in-No c =
    let l = c.args.specification.now.logic in
    let xs = c.args.specification.now.items.items in
    let m = c.args.structure.now in
    let ok = c.in_ok-is_admitted.ensures.0 c.if-not-branch.false in
    let told = rw c.in-No.is at c.in_ok-meets_each-in-Mu.ensures in
    by_each_failed l xs (is_in c.args.taken.now) c.args.question m c.args.state c.requires.specified c.requires.question ok
    c.requires.state (not_ltl l c.in-Mu.is) (subst (λ ps. EachAs ps m c.args.state No) c.requires.problems told)
