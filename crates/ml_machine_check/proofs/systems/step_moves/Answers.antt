use Rattle.std.proofs.Common.{rules, ◌≡◌, ◌+◌, ◌*◌, length, sym, ap, subst}
use Rattle.ml_machine_check.specs.private.AsSystems.{AreMoves, IsStep, step_in}
use Rattle.ml_machine_check.proofs.AsSystems.{move, step_more}
use Rattle.ml_machine_check.proofs.systems.step_moves.Goals as goal

pub loop-set-preserved : goal.loop-set-preserved
loop-set-preserved c =
    let steps = c.args.steps.now in
    let n = c.loop-set.set in
    subst (AreMoves (IsStep c.args.inputs steps (n + 1))) (sym c.in_ok-push.ensures.items)
    (step_more c.args.inputs steps n c.loop-set.moves.items _ c.loop-set.invariant
    (ap (λ w. move (n + w * (step_in steps n).give) (step_in steps n).next) c.sets-weight.ensures.is))

pub returns : goal.returns
returns c =
    let all : c.loop-set.set ≡ length c.args.steps.now = search rules in
    subst (λ n. AreMoves (IsStep c.args.inputs c.args.steps.now n) c.loop-set.moves.items) all c.loop-set.invariant
