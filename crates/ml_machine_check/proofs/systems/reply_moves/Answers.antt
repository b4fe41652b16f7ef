use Rattle.std.proofs.Common.{rules, ◌≡◌, ◌+◌, ◌*◌, get_or, length, sym, ap, subst}
use Rattle.ml_machine_check.specs.private.AsSystems.{AreMoves, IsReply}
use Rattle.ml_machine_check.proofs.AsSystems.{move, reply_more}
use Rattle.ml_machine_check.proofs.systems.reply_moves.Goals as goal

pub loop-set-preserved : goal.loop-set-preserved
loop-set-preserved c =
    let next = c.args.next.now in
    let n = c.loop-set.set in
    subst (AreMoves (IsReply c.args.inputs c.args.play next (n + 1))) (sym c.in_ok-push.ensures.items)
    (reply_more c.args.inputs c.args.play next n c.loop-set.moves.items _ c.loop-set.invariant
    (ap (λ w. move (c.args.play + w * n) (get_or next n 0)) c.sets-weight.ensures.is))

pub returns : goal.returns
returns c =
    let all : c.loop-set.set ≡ length c.args.next.now = search rules in
    subst (λ n. AreMoves (IsReply c.args.inputs c.args.play c.args.next.now n) c.loop-set.moves.items) all
    c.loop-set.invariant
