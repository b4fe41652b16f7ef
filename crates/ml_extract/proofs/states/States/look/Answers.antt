use Rattle.ml_extract.proofs.Board.{board_of}
use Rattle.ml_extract.proofs.NumberedStates.{is_pending, looked_at}
use Rattle.ml_extract.specs.private.Numbered.{IsUnderWay}
use Rattle.std.proofs.Common.{sym, subst}
use Rattle.ml_extract.proofs.states.States.look.Goals as goal

pub end_of-last-requires-clause-won : goal.end_of-last-requires-clause-won
end_of-last-requires-clause-won c =
    let B = board_of c.args.game.now.graph.now c.args.game.now.arena.now c.args.game.now.solution.now c.requires.even in
    is_pending B c.args.self.now.firsts.keys c.args.self.now.lasts.items c.args.first c.requires.under_way
    c.requires.is_next

pub returns-clause-under_way : goal.returns-clause-under_way
returns-clause-under_way c =
    let B = board_of c.args.game.now.graph.now c.args.game.now.arena.now c.args.game.now.solution.now c.requires.even in
    subst (IsUnderWay B.g B.a B.s c.add_all.new.firsts.keys) (sym c.in_ok-push.ensures.items)
    (looked_at B c.args.self.now.firsts.keys c.args.self.now.lasts.items c.args.first c.end_of-last.result
    c.behind.result.now c.requires.under_way c.requires.is_next c.end_of-last.ensures c.behind.ensures
    c.add_all.new.firsts.keys c.in_ok-add_all.ensures)
