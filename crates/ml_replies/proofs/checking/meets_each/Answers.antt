use Rattle.std.proofs.Common.{◌++◌, ◌∷◌, [], take, sym, ap, subst, ◌∙◌}
use Rattle.std.proofs.lemmas.List.{take_more}
use Rattle.ml_front.specs.declared.problem.Problem.{Problem}
use Rattle.ml_replies.specs.private.Checks.{SoFarAs}
use Rattle.ml_replies.proofs.Verdicts.{unknown_more, yes_more}
use Rattle.ml_replies.proofs.checking.meets_each.Goals as goal
use Rattle.ml_replies.proofs.checking.meets_each.Goals.{in-Yes, in-Unknown}

pub loop-problem-preserved : goal.loop-problem-preserved
loop-problem-preserved c =
    let ps = c.args.problems.now in
    let m = c.args.structure.now in
    let s = c.args.state in
    let i = c.loop-problem.problem-index in
    let p : Problem = c.problem-item.result in
    let front = take_more ps i p c.loop-problem-test.true ∙ ap (λ q. take i ps ++ q ∷ []) (sym c.problem-item.is) in
    elim c.match-branch-2.branch [
      | in-Yes w ↦
          let one = rw w.in-Yes.is at c.in_ok-meets_one.ensures in
          subst (λ qs. SoFarAs qs m s c.match-branch-2.all) (sym front)
          (subst (SoFarAs (take i ps ++ p ∷ []) m s) (sym w.all-is)
          (yes_more m s (take i ps) p c.loop-problem.all c.loop-problem.invariant one))
      | in-Unknown w ↦
          let one = rw w.in-Unknown.is at c.in_ok-meets_one.ensures in
          subst (λ qs. SoFarAs qs m s c.match-branch-2.all) (sym front)
          (subst (SoFarAs (take i ps ++ p ∷ []) m s) (sym w.all-is)
          (unknown_more m s (take i ps) p c.loop-problem.all c.loop-problem.invariant one))
    ]
